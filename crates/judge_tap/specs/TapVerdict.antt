-- What there is to say of a lawful capture between the ends: what it means, or why it means nothing whole. Lists have the newest
-- first.
use Rattle.std.specs.Prelude.{◌≡◌, ℕ, List, length, Option, Some, None, Result, Ok, Err}
use Rattle.tftp_packet.specs.{RequestParts, End}
use Rattle.law_model.specs.Model.{Meaning}
use Rattle.tftp_judge.specs.{Refusal}
use Rattle.tftp_judge.specs.declared.refusal.Refusal.TheVariants as of_end
use Rattle.law_end.specs.{FirstErrorBy, IsWritable, IsEnded, NoErrorBy}
use Rattle.law_tap.specs.{TapDatagram, TapSides, IsLawfulBetween, ShowsBetween, transfer_between, FirstTapAsked, header_at, kept_between}
use Rattle.judge_tap.specs.TapKept.{IsErrorAtTap}
use Rattle.judge_tap.specs.declared.refusal.TapRefusal.{TapRefusal}
use Rattle.judge_tap.specs.declared.refusal.TapRefusal.TheVariants.{Unlawful, Aborted, Incomplete, NormalTooLong, Memory}

-- some run of this meaning passes them, and the last ACK has passed
abbrev pub IsShown : TapSides → List TapDatagram → Meaning → Type 0
IsShown s tapped m = (wire : List ℕ) × ShowsBetween s m wire tapped

abbrev pub NoneShown : TapSides → List TapDatagram → Type 0
NoneShown s tapped = (m : Meaning) → IsShown s tapped m → ⊥

-- the end that gets the file has all of it, by what it would keep
abbrev pub IsWholeThere : TapSides → List TapDatagram → Type 0
IsWholeThere s tapped =
    (asked : RequestParts) × FirstTapAsked s (transfer_between s tapped) asked × IsEnded (header_at s asked.side) (kept_between s asked.side (transfer_between s tapped))

-- Memory is wanting, after all datagrams, only where they are a whole transfer. What is not lawful was refused before.
abbrev pub IsTapVerdict : TapSides → List TapDatagram → Result Meaning TapRefusal → Type 0
IsTapVerdict s tapped (Ok m) = IsLawfulBetween s tapped × IsShown s tapped m × IsWritable s.rollover m
IsTapVerdict s tapped (Err (Unlawful index rule stands)) = ⊥
IsTapVerdict s tapped (Err (Aborted end code)) = IsLawfulBetween s tapped × NoneShown s tapped × FirstErrorBy (IsErrorAtTap s) (transfer_between s tapped) end code
IsTapVerdict s tapped (Err (Incomplete count)) = IsLawfulBetween s tapped × NoneShown s tapped × NoErrorBy (IsErrorAtTap s) (transfer_between s tapped) × (count ≡ length tapped)
IsTapVerdict s tapped (Err NormalTooLong) = IsLawfulBetween s tapped × ((m : Meaning) × IsShown s tapped m) × ((m : Meaning) → IsShown s tapped m → IsWritable s.rollover m → ⊥)
IsTapVerdict s tapped (Err (Memory count)) = IsLawfulBetween s tapped × IsWholeThere s tapped × (count ≡ length tapped)

-- ---- of what is said at the end that gets the file

-- of a transfer that is not whole: by its first ERROR, or by how many datagrams there are
abbrev pub unfinished_by : Option (End × ℕ) → ℕ → TapRefusal
unfinished_by None count = Incomplete count
unfinished_by (Some first) count = Aborted first.0 first.1

abbrev pub said_at_tap : Result Meaning Refusal → Option (End × ℕ) → ℕ → Result Meaning TapRefusal
said_at_tap (Ok m) first count = Ok m
said_at_tap (Err of_end.NormalTooLong) first count = Err NormalTooLong
said_at_tap (Err (of_end.Memory n)) first count = Err (Memory count)
said_at_tap (Err _) first count = Err (unfinished_by first count)
