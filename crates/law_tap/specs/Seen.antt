-- What was recorded at a tap: which end each payload came from, as the ports and hosts say it. Lists have the newest first.
use Rattle.std.specs.Prelude.{◌≡◌, ℕ, List, [], ◌∷◌, filter_map, Option, Some, None}
use Rattle.tftp_packet.specs.{Spells, End}
use Rattle.tftp_packet.specs.{Rollover}
use Rattle.law_model.specs.Model.{Meaning, message_of}
use Rattle.law_end.specs.{Fits, Label, Main, Stray, Labelled, Division}
use Rattle.law_end.specs.Dress.{StrayAnswer}
use Rattle.law_tap.specs.Tap.{Pass, pass_of, IsTapView, IsWholeAtTap}

pub record Tapped : Type 0 where
  pub from : End
  pub payload : List ℕ

-- each payload spells what passed
abbrev pub AreCarried : Meaning → List ℕ → List Pass → List Tapped → Type 0
AreCarried m wire [] [] = Unit {0}
AreCarried m wire (x ∷ passed) (t ∷ tapped) = (t.from ≡ x.from) × Spells t.payload (message_of m wire x.packet) × AreCarried m wire passed tapped
AreCarried m wire _ _ = ⊥

-- Some run of the meaning, over this wire, passes a tap so.
pub record IsSeenAtTap (rollover : Option Rollover) (m : Meaning) (wire : List ℕ) (tapped : List Tapped) : Type 0 where
  pub fits : Fits rollover m wire
  pub passed : List Pass
  pub view : IsTapView m wire passed
  pub carried : AreCarried m wire passed tapped

-- and the last ACK has passed
pub record ShowsAtTap (rollover : Option Rollover) (m : Meaning) (wire : List ℕ) (tapped : List Tapped) : Type 0 where
  pub seen : IsSeenAtTap rollover m wire tapped
  pub whole : IsWholeAtTap m wire seen.passed

-- the main datagrams of a capture at an end, as a tap beside that end would have them
abbrev pub main_at : End → Labelled → Option Tapped
main_at e p = by p.label where
  by : Label → Option Tapped
  by (Main deed) = Some (record { from = (pass_of e deed).from; payload = p.datagram.payload })
  by Stray = None
  by StrayAnswer = None

abbrev pub mains_at : End → Division → List Tapped
mains_at e division = filter_map (main_at e) division
