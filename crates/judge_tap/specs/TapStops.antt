-- What is found of one datagram between the ends, by the rules that it may break. The lists `earlier` and `passed` have the
-- datagrams that have passed and those of the transfer, the newest first.
use Rattle.std.specs.Prelude.{◌≡◌, ◌⊎◌, ◌+◌, ◌&&◌, not, ℕ, false, List, [], ◌∷◌, length, nat_lt, Option, Some, None, Result, Ok, Err, if◌then◌else◌}
use Rattle.tftp_packet.specs.{Message, RequestParts, Spells, FirstFault, Side, End, Rollover}
use Rattle.tftp_capture.specs.declared.datagram.Datagram.{Datagram as OwnedDatagram}
use Rattle.tftp_capture.specs.{datagram_of}
use Rattle.law_model.specs.Model.Roles.{receiver_of}
use Rattle.law_model.specs.Rules.{transfer_of}
use Rattle.law_rollover.specs.{IsTaken}
use Rattle.tftp_judge.specs.{TakesMemory, Refusal}
use Rattle.tftp_judge.specs.declared.refusal.Refusal.TheVariants as of_end
use Rattle.law_end.specs.{Broken, number_of, Rule}
use Rattle.law_end.specs.declared.rule.Rule.TheVariants as rule
use Rattle.law_tap.specs.{TapDatagram, TapSides, side_of, is_left_out, asks_in, has_gone, tap_tests, transfer_between, FirstTapAsked, FirstTapBroken, KeptBreaks, TapPasses, header_at, is_of_ports, kept_between, recorded_at, TapRoute, IsCertainBetween, StandsWhateverIsMissing}
use Rattle.judge_tap.specs.TapFinds.{OwnBreaks}
use Rattle.judge_tap.specs.TapKept.{IsTapTransfer, TapTransfer, kept_there}
use Rattle.judge_tap.specs.TapSeen.{IsNew}
use Rattle.judge_tap.specs.ToldKept.{IsStandingAtTap}
use Rattle.judge_tap.specs.declared.datagram.TapDatagram.{TapDatagram as Owned}
use Rattle.judge_tap.specs.declared.refusal.TapRefusal.{TapRefusal}
use Rattle.judge_tap.specs.declared.refusal.TapRefusal.TheVariants.{Unlawful, Memory as WantsMemory}
use Rattle.tftp_judge.specs.declared.pass_error.PassError.{PassError}
use Rattle.tftp_judge.specs.declared.pass_error.PassError.TheVariants.{Broken as Breaks, Memory}

-- the datagram that a value in memory is
abbrev pub passing_of : Owned → TapDatagram
passing_of d = record { source = d.source; destination = d.destination; payload = d.payload }

-- and the same with this payload
abbrev pub passing_as : Owned → List ℕ → TapDatagram
passing_as d payload = record { source = d.source; destination = d.destination; payload = payload }

-- Of the first rules of two kinds the one that is tried first, where either is broken. A rule of ports at the end that gets the
-- file stands back: between the ends those are told by the two sides alone.
abbrev pub smaller_of : Option Rule → Result (Unit {0}) PassError → Result (Unit {0}) PassError
smaller_of None found = found
smaller_of (Some own) (Err (Breaks other)) = if not (is_of_ports other) && nat_lt (number_of other) (number_of own) then Err (Breaks other) else Err (Breaks own)
smaller_of (Some own) _ = Err (Breaks own)

-- the value in memory is what the end that gets the file would have recorded of the datagram
abbrev pub IsRecorded : TapSides → End → TapDatagram → OwnedDatagram → Type 0
IsRecorded s receiver d owned = datagram_of owned ≡ recorded_at s receiver d

-- That end takes the value in memory for what it would have recorded of the datagram, after those that it would keep.
abbrev pub IsRecordedFor : Option Rollover → TapSides → Side → List TapDatagram → TapDatagram → OwnedDatagram → Type 0
IsRecordedFor rollover s side passed d owned =
    IsTaken rollover (transfer_of (header_at s side) (kept_between s side passed)) (datagram_of owned) (recorded_at s (receiver_of side) d)

-- what the end that gets the file would find of a datagram, where it would keep it, the rules of ports among it
abbrev pub ReceiverBreaks : TapSides → Side → List TapDatagram → TapDatagram → Rule → Type 0
ReceiverBreaks s side passed d broken =
    (is_left_out (tap_tests s) (receiver_of side) d (kept_there s side passed) ≡ false)
    × Broken (header_at s side) (kept_between s side passed) (recorded_at s (receiver_of side) d) broken

-- the rules that a datagram of the transfer breaks after its first request
abbrev pub TransferBreaks : TapSides → List TapDatagram → TapRoute → TapDatagram → Rule → Type 0
TransferBreaks s passed route d broken = OwnBreaks s passed route d broken ⊎ KeptBreaks s passed d broken

-- it can be read, unless it breaks a rule
abbrev pub IsReadUnless : Result (Unit {0}) PassError → List ℕ → Type 0
IsReadUnless (Ok _) payload = (m : Message) × Spells payload m
IsReadUnless (Err (Breaks rule)) payload = Unit {0}
IsReadUnless (Err Memory) payload = (m : Message) × Spells payload m

-- the same of any datagram after those that have passed
abbrev pub FindsAtTap : TapSides → List TapDatagram → TapDatagram → Type 0 → Result (Unit {0}) PassError → Type 0
FindsAtTap s earlier d After (Ok _) = TapPasses s earlier d × After
FindsAtTap s earlier d After (Err (Breaks rule)) = FirstTapBroken s earlier d rule
FindsAtTap s earlier d After (Err Memory) = TapPasses s earlier d

-- the same where the datagram begins a transfer
abbrev pub BeginsAtTap : TapSides → List TapDatagram → TapDatagram → Result TapTransfer PassError → Type 0
BeginsAtTap s earlier d (Ok transfer) = TapPasses s earlier d × IsTapTransfer transfer s (d ∷ [])
BeginsAtTap s earlier d (Err (Breaks rule)) = FirstTapBroken s earlier d rule
BeginsAtTap s earlier d (Err Memory) = TapPasses s earlier d

-- why a payload asks for nothing, or memory runs out for what it asks for
abbrev pub IsNoRequest : List ℕ → PassError → Type 0
IsNoRequest payload (Breaks (rule.Malformed fault)) = FirstFault payload fault
IsNoRequest payload (Breaks rule.NoRequest) = asks_in payload ≡ false
IsNoRequest payload (Breaks _) = ⊥
IsNoRequest payload Memory = (asked : RequestParts) × Spells payload (Message.Request asked)

-- what the judge at an end refuses for, as a reason to stop
abbrev pub error_by_refusal : Refusal → PassError
error_by_refusal (of_end.Unlawful index rule) = Breaks rule
error_by_refusal _ = Memory

-- ---- for which datagrams memory is taken

-- one that goes a way that none has gone, the first request, a block above the next one or an ERROR that the notes keep, or
-- one for which the judge at the end that gets the file takes memory
abbrev pub TakesInTransfer : TapSides → List TapDatagram → TapDatagram → Type 0
TakesInTransfer s passed d =
    ((end : End) × (d.source ≡ side_of s end) × (m : Message) × Spells d.payload m × IsNew s passed end m)
    ⊎ ((asked : RequestParts) × FirstTapAsked s passed asked × TakesMemory (header_at s asked.side) (kept_between s asked.side passed) (recorded_at s (receiver_of asked.side) d))

abbrev pub TakesMemoryAtTap : TapSides → List TapDatagram → TapDatagram → Type 0
TakesMemoryAtTap s earlier d = (has_gone d.source d.destination earlier ≡ false) ⊎ ((transfer_between s earlier ≡ []) ⊎ TakesInTransfer s (transfer_between s earlier) d)

-- The refusal of the datagram after those that were fed, and whether it stands whatever is missing. Memory is wanting only for one
-- that breaks no rule, and for which memory is taken.
abbrev pub RefusesAtTap : TapSides → List TapDatagram → TapDatagram → TapRefusal → Type 0
RefusesAtTap s earlier d (Unlawful index rule stands) = (index ≡ length earlier + 1) × FirstTapBroken s earlier d rule × IsStandingAtTap s earlier d rule stands
RefusesAtTap s earlier d (WantsMemory count) = (count ≡ length earlier) × TapPasses s earlier d × TakesMemoryAtTap s earlier d
RefusesAtTap s earlier d _ = ⊥

-- Where the rule stands whatever is missing, the datagram is certain: no lawful list has it after those, however many more it has.
abbrev pub IsCertainByRule : TapSides → List TapDatagram → TapDatagram → TapRefusal → Type 0
IsCertainByRule s earlier d (Unlawful index rule stands) = StandsWhateverIsMissing rule → IsCertainBetween s earlier d
IsCertainByRule s earlier d _ = Unit {0}
