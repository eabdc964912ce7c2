-- A capture between the ends whose blocks and ACKs have numbers that begin again (RFC 1350, section 5). Lists have the newest
-- first.
use Rattle.std.specs.Prelude.{◌≡◌, ℕ, ◌<◌, List, [], ◌∷◌, Option, Some, None}
use Rattle.std.specs.List.{AllByRecursion}
use Rattle.tftp_packet.specs.{Rollover}
use Rattle.law_model.specs.Model.{Meaning}
use Rattle.law_model.specs.Rules.{IsGreatest}
use Rattle.law_end.specs.{Fits}
use Rattle.law_rollover.specs.{IsNearPacket, higher_of, says_by_number, unrolled_payload}
use Rattle.law_tap.specs.Tap.{Pass, IsTapView, IsWholeAtTap}
use Rattle.law_tap.specs.TapCapture.{TapDatagram, TapSides}
use Rattle.law_tap.specs.TapDress.{HaveTapLabels, TapDivision, passed_of, tapped_of}
use Rattle.law_tap.specs.TapRoutes.{transfer_between}
use Rattle.law_tap.specs.TapRules.{HasKind, IsBlock}

-- ---- blocks in the place of numbers

-- the highest block of a DATA among these datagrams, or 0
abbrev pub IsHighBetween : List TapDatagram → ℕ → Type 0
IsHighBetween passed high = IsGreatest (λ k. HasKind (IsBlock k) passed) high

abbrev pub with_tap_payload : TapDatagram → List ℕ → TapDatagram
with_tap_payload d payload = record { source = d.source; destination = d.destination; payload = payload }

-- A datagram's number is the block near the highest that has passed of the transfer; all else is the same.
abbrev pub IsUnrolledBetween : Rollover → (passed : List TapDatagram) → TapDatagram → TapDatagram → Type 0
IsUnrolledBetween r passed d now = (high : ℕ) × IsHighBetween passed high × (now ≡ with_tap_payload d (unrolled_payload r high d.payload))

-- so are all datagrams of a capture, from the oldest on
abbrev pub AreUnrolledBetween : Rollover → TapSides → List TapDatagram → List TapDatagram → Type 0
AreUnrolledBetween r s [] [] = Unit {0}
AreUnrolledBetween r s (d ∷ earlier) (now ∷ unrolled) = IsUnrolledBetween r (transfer_between s unrolled) d now × AreUnrolledBetween r s earlier unrolled
AreUnrolledBetween r s _ _ = ⊥

-- What a judge takes a payload for after these datagrams: that payload, or where numbers begin again the one with the block near.
abbrev pub IsTakenBetween : Option Rollover → (passed : List TapDatagram) → List ℕ → List ℕ → Type 0
IsTakenBetween None passed payload now = now ≡ payload
IsTakenBetween (Some r) passed payload now = (high : ℕ) × IsHighBetween passed high × (now ≡ unrolled_payload r high payload)

-- ---- by number

-- the highest block that has passed, or 0
abbrev pub high_between : List Pass → ℕ
high_between [] = 0
high_between (x ∷ earlier) = higher_of x.packet (high_between earlier)

-- each block and each ACK is near the highest DATA block that has passed before it
abbrev pub AreNearBetween : Rollover → List Pass → Type 0
AreNearBetween r [] = Unit {0}
AreNearBetween r (x ∷ earlier) = IsNearPacket r (high_between earlier) x.packet × AreNearBetween r earlier

-- each payload is bytes
abbrev pub AreTapBytes : List TapDatagram → Type 0
AreTapBytes tapped = AllByRecursion (λ (d : TapDatagram). AllByRecursion (λ b. b < 256) d.payload) tapped

-- The datagrams can be divided so that the main ones are what passed, by numbers.
pub record IsTapDressedByNumber (r : Rollover) (s : TapSides) (m : Meaning) (wire : List ℕ) (passed : List Pass) (tapped : List TapDatagram) : Type 0 where
  pub division : TapDivision
  pub whole : tapped_of division ≡ tapped
  pub main : passed_of division ≡ passed
  pub labels : HaveTapLabels s (says_by_number r m wire) division

-- Some run of the meaning, over this wire, passes a tap between its two ends so, and no block and no ACK far from the highest DATA
-- block there.
pub record IsSeenBetweenByNumber (r : Rollover) (s : TapSides) (m : Meaning) (wire : List ℕ) (tapped : List TapDatagram) : Type 0 where
  pub fits : Fits s.rollover m wire
  pub passed : List Pass
  pub view : IsTapView m wire passed
  pub near : AreNearBetween r passed
  pub dressed : IsTapDressedByNumber r s m wire passed tapped

-- some run has what the capture has
abbrev pub IsLawfulBetweenByNumber : Rollover → TapSides → List TapDatagram → Type 0
IsLawfulBetweenByNumber r s tapped = (m : Meaning) × (wire : List ℕ) × IsSeenBetweenByNumber r s m wire tapped

-- and the last ACK has passed (RFC 1350, section 6)
pub record ShowsBetweenByNumber (r : Rollover) (s : TapSides) (m : Meaning) (wire : List ℕ) (tapped : List TapDatagram) : Type 0 where
  pub seen : IsSeenBetweenByNumber r s m wire tapped
  pub whole : IsWholeAtTap m wire seen.passed
