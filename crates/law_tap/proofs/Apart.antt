-- What may pass is what might come to each of the two ends, judged apart.
use Rattle.std.proofs.Common.{ℕ, List, [], ◌∷◌, ◌↔◌}
use Rattle.tftp_packet.specs.{End, Client, Server}
use Rattle.law_model.specs.Model.{Meaning, Sent, Took, MachinePacket, History, IsOneSided}
use Rattle.law_tap.specs.{Pass, deed_at, as_at, MayPass, MayPassEach, ComesEach, IsTapView}
use Rattle.law_tap.proofs.Replays.{passes_are_tapped, tap_view_is}

abbrev Both : Meaning → List ℕ → List Pass → Type 0
Both m wire passed = ComesEach m wire Client (as_at Client passed) × ComesEach m wire Server (as_at Server passed)

module _ (m : Meaning) (wire : List ℕ) where
  more : (f : End) (p : MachinePacket) (passed : List Pass) → MayPass m wire passed f p → Both m wire passed → ComesEach m wire Client (deed_at Client f p ∷ as_at Client passed) × ComesEach m wire Server (deed_at Server f p ∷ as_at Server passed)
  more Client p passed may both = (both.0, (may, both.1))
  more Server p passed may both = ((may, both.0), both.1)

  fewer : (f : End) (p : MachinePacket) (passed : List Pass) → ComesEach m wire Client (deed_at Client f p ∷ as_at Client passed) → ComesEach m wire Server (deed_at Server f p ∷ as_at Server passed) → MayPass m wire passed f p × Both m wire passed
  fewer Client p passed client server = (server.0, (client, server.1))
  fewer Server p passed client server = (client.0, (client.1, server))

  to_both : (passed : List Pass) → MayPassEach m wire passed → Both m wire passed
  to_both [] may = (tt, tt)
  to_both (x ∷ passed) may = more x.from x.packet passed may.0 (to_both passed may.1)

  from_both : (passed : List Pass) → Both m wire passed → MayPassEach m wire passed
  from_both [] both = tt
  from_both (x ∷ passed) both = let now = fewer x.from x.packet passed both.0 both.1 in (now.0, from_both passed now.1)

  pub apart_is : (passed : List Pass) → MayPassEach m wire passed ↔ (ComesEach m wire Client (as_at Client passed) × ComesEach m wire Server (as_at Server passed))
  apart_is passed = (to_both passed, from_both passed)

  pub one_sided_comes : (e : End) (h : History) → IsOneSided m wire e h → ComesEach m wire e h
  one_sided_comes e [] own = tt
  one_sided_comes e (Sent p ∷ h) own = one_sided_comes e h own.1
  one_sided_comes e (Took p ∷ h) own = (own.0, one_sided_comes e h own.1)

  pub earlier_passed : (x : Pass) (passed : List Pass) → IsTapView m wire (x ∷ passed) → IsTapView m wire passed
  earlier_passed x passed view = passes_are_tapped m wire passed ((tap_view_is m wire (x ∷ passed)).0 view).1
