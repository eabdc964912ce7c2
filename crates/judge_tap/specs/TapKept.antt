-- What the judge at a tap keeps of the datagrams that it has accepted, and for which datagrams that stands. The lists `earlier`
-- and `passed` have the datagrams that have passed and those of the transfer, the newest first.
use Rattle.std.specs.Prelude.{◌≡◌, ◌<◌, ◌≤◌, ◌^◌, ℕ, Bool, true, List, [], length, Option, Some, None}
use Rattle.std.specs.List.{list_any}
use Rattle.tftp_packet.specs.{Message, RequestParts, Spells, Side, End}
use Rattle.law_model.specs.Model.Roles.{receiver_of}
use Rattle.law_end.specs.{IsFirstError}
use Rattle.tftp_judge.specs.{IsJudgeAfter, Judge}
use Rattle.law_tap.specs.{TapDatagram, TapSides, side_of, AreApart, kept_of, KnownWays, StandsForTap, tap_tests, transfer_between, BreaksNoTapRule, FirstTapAsked, IsHighBetween, header_at, kept_between}
use Rattle.judge_tap.specs.TapSeen.{AreNotes, Notes}
use Rattle.judge_tap.specs.ToldKept.{AreTold, Told}
use Rattle.judge_tap.specs.declared.refusal.TapRefusal.{TapRefusal}

-- ---- what the end that gets the file would keep

pub record Receiving : Type 0 where
  pub judge : Judge  -- the judge at that end, of what it would keep
  pub end : End
  pub answered : Bool  -- something of the server's is kept

abbrev pub kept_there : TapSides → Side → List TapDatagram → List TapDatagram
kept_there s side passed = kept_of (tap_tests s) (receiver_of side) passed

-- the judge stands for what is kept of these datagrams
pub record IsReceiving (r : Receiving) (s : TapSides) (side : Side) (passed : List TapDatagram) : Type 0 where
  pub end : r.end ≡ receiver_of side
  pub judge : IsJudgeAfter r.judge (header_at s side) (kept_between s side passed)
  pub asked : list_any (tap_tests s).asks (kept_there s side passed) ≡ true
  pub answered : r.answered ≡ list_any (tap_tests s).answers (kept_there s side passed)

-- ---- the transfer from its first request on

-- the datagram is an ERROR of this end with this code
abbrev pub IsErrorAtTap : TapSides → TapDatagram → End → ℕ → Type 0
IsErrorAtTap s d end code = (d.source ≡ side_of s end) × (text : List ℕ) × Spells d.payload (Message.Error code text)

pub record TapTransfer : Type 0 where
  pub asked : RequestParts  -- the first request
  pub receiving : Receiving
  pub notes : Notes
  pub first_error : Option (End × ℕ)  -- whose the first ERROR was, and its code
  pub highest : ℕ  -- the highest block of a DATA that has passed, or 0

-- the transfer stands for these datagrams of it
pub record IsTapTransfer (t : TapTransfer) (s : TapSides) (passed : List TapDatagram) : Type 0 where
  pub asked : FirstTapAsked s passed t.asked
  pub receiving : IsReceiving t.receiving s t.asked.side passed
  pub notes : AreNotes t.notes s passed
  pub first_error : IsFirstError (IsErrorAtTap s) passed t.first_error
  pub highest : IsHighBetween passed t.highest

-- ---- the judge

-- what is kept of all that has passed
pub record TapState : Type 0 where
  pub sides : TapSides
  pub ports : KnownWays
  pub transfer : Option TapTransfer  -- from the first request on
  pub told : Told  -- what tells whether a refusal stands whatever is missing
  pub stands : Option Bool  -- whether the last one does

pub record TapJudge : Type 0 where
  pub state : TapState
  pub fed : ℕ
  pub refused : Option TapRefusal  -- what is answered for good

-- no datagram of the transfer has passed; or the first request has, and the transfer stands for those of it
abbrev pub IsKeptAtTap : TapSides → List TapDatagram → Option TapTransfer → Type 0
IsKeptAtTap s passed None = passed ≡ []
IsKeptAtTap s passed (Some transfer) = IsTapTransfer transfer s passed

-- what is kept of a transfer, as far as a message is judged by it: the first request, and the ERRORs
abbrev pub IsHeard : TapSides → List TapDatagram → Option TapTransfer → Type 0
IsHeard s passed None = passed ≡ []
IsHeard s passed (Some transfer) = FirstTapAsked s passed transfer.asked × AreNotes transfer.notes s passed

-- what is kept of these datagrams
pub record HasKeptAtTap (k : TapState) (s : TapSides) (earlier : List TapDatagram) : Type 0 where
  pub sides : k.sides ≡ s
  pub ports : StandsForTap k.ports s earlier
  pub kept : IsKeptAtTap s (transfer_between s earlier) k.transfer
  pub told : AreTold k.told s earlier

-- the judge at the end that gets the file was fed so many at most
abbrev pub FedWithin : Option TapTransfer → ℕ → Type 0
FedWithin None n = Unit {0}
FedWithin (Some transfer) n = transfer.receiving.judge.fed ≤ n

-- and it may be fed one more
abbrev pub IsFewFed : Option TapTransfer → Type 0
IsFewFed None = Unit {0}
IsFewFed (Some transfer) = transfer.receiving.judge.fed < 2 ^ 40

-- The judge stands for these datagrams: it has accepted them, and has refused none.
pub record IsTapJudge (j : TapJudge) (s : TapSides) (earlier : List TapDatagram) : Type 0 where
  pub apart : AreApart s
  pub lawful : BreaksNoTapRule s earlier
  pub kept : HasKeptAtTap j.state s earlier
  pub fed : j.fed ≡ length earlier
  pub goes_on : j.refused ≡ None

-- unless it has refused one, it has fed the judge at that end no more than it was fed
abbrev pub IsFedWithin : TapJudge → Type 0
IsFedWithin j = j.refused ≡ None → FedWithin j.state.transfer j.fed
