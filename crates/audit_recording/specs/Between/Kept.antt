-- What the judge between the ends keeps, and for which datagrams of a recording it stands.
use Rattle.std.specs.Prelude.{◌≡◌, ℕ, true, false, List, [], length, map, reverse, is_some, Option, Some, None}
use Rattle.tftp_packet.specs.{Rollover}
use Rattle.law_tap.specs.{PeerId, TapDatagram, TapSides}
use Rattle.judge_tap.specs.{TapJudge, passing_of, TapDatagram as Owned, TapRefusal}
use Rattle.audit_flows.specs.Lines.{Placed}
use Rattle.audit_flows.specs.{Transfer}
use Rattle.audit_flows.specs.Transfers.{AreEndsAfter, is_settled}
use Rattle.audit_flows.specs.{TransferEnds}
use Rattle.audit_views.specs.{Held, Party}
use Rattle.audit_recording.specs.Between.Captured.{are_apart, between_capture, sides_by, sides_of}
use Rattle.audit_recording.specs.Between.Judged.{HasTappedBy}

-- ---- what is fed

-- an end of a datagram as it is fed, with its host's name
abbrev pub side_of : Party → PeerId
side_of p = record { host = p.host; port = p.end.port }

abbrev pub passed_as : Held → TapDatagram
passed_as h = record { source = side_of h.source; destination = side_of h.target; payload = h.payload }

-- ---- two sides

-- The judge of what passes between them; there is none where the client is one of the other two, and it only counts. The sides say
-- what comes after block 65535.
pub record Between : Type 0 where
  pub sides : TapSides
  pub judge : Option TapJudge
  pub counted : ℕ

-- there is a judge just where the client is none of the other two
abbrev pub IsJudgedIfApart : Between → Type 0
IsJudgedIfApart b = is_some b.judge ≡ are_apart b.sides

abbrev pub PassedBy : Option TapJudge → Between → List TapDatagram → Type 0
PassedBy None b given = b.counted ≡ length given
PassedBy (Some j) b given = HasTappedBy b.sides.rollover j b.sides given

-- It was given these datagrams, and nothing else.
abbrev pub HasPassed : Between → List TapDatagram → Type 0
HasPassed b given = PassedBy b.judge b given

-- how many the judge accepted, or were counted
abbrev pub counted_by : Between → ℕ
counted_by b = by b.judge where
  by : Option TapJudge → ℕ
  by None = b.counted
  by (Some j) = j.fed

abbrev pub refused_by : Between → Option TapRefusal
refused_by b = by b.judge where
  by : Option TapJudge → Option TapRefusal
  by None = None
  by (Some j) = j.refused

-- ---- the transfer, in one pass

-- The transfer's datagrams that are held, the oldest first, until it is known who the server is; then the judge of the sides. The
-- rollover is what comes after block 65535, where anything does.
pub record View : Type 0 where
  pub transfer : Transfer
  pub rollover : Option Rollover
  pub ends : TransferEnds
  pub held : List Owned
  pub judge : Option Between

-- these datagrams are held, as they passed
abbrev pub AreHeld : List Owned → List TapDatagram → Type 0
AreHeld held given = map passing_of held ≡ reverse given

-- It is not known yet who the server is: those of the transfer at its client are held, and no others.
pub record IsWaiting (rollover : Option Rollover) (v : View) (placed : List Placed) : Type 0 where
  pub own : v.rollover ≡ rollover
  pub number : v.ends.number ≡ v.transfer.number
  pub ends : AreEndsAfter v.ends placed
  pub unsettled : is_settled v.transfer.number placed ≡ false
  pub held : AreHeld v.held (between_capture v.transfer placed)

-- It is known: none is held, and the judge of just these sides was given all of them.
pub record IsGoingOnBy (rollover : Option Rollover) (b : Between) (v : View) (placed : List Placed) : Type 0 where
  pub settled : is_settled v.transfer.number placed ≡ true
  pub none : v.held ≡ []
  pub sides : b.sides ≡ sides_by rollover (sides_of v.transfer placed)
  pub passed : HasPassed b (between_capture v.transfer placed)

abbrev pub BetweenBy : Option Rollover → Option Between → View → List Placed → Type 0
BetweenBy rollover None v placed = IsWaiting rollover v placed
BetweenBy rollover (Some b) v placed = IsGoingOnBy rollover b v placed

-- It was fed these datagrams of a recording, and nothing else; the rollover is what comes after block 65535, where anything does.
abbrev pub IsBetweenAfterBy : Option Rollover → View → List Placed → Type 0
IsBetweenAfterBy rollover v placed = BetweenBy rollover v.judge v placed

-- the same where blocks go up to 65535
abbrev pub IsBetweenAfter : View → List Placed → Type 0
IsBetweenAfter = IsBetweenAfterBy None

-- how many are held, or were accepted
abbrev pub given_to : View → ℕ
given_to v = by v.judge where
  by : Option Between → ℕ
  by None = length v.held
  by (Some b) = counted_by b

-- what a datagram was refused for, where it is known who the server is
abbrev pub has_refused : View → Option TapRefusal
has_refused v = by v.judge where
  by : Option Between → Option TapRefusal
  by None = None
  by (Some b) = refused_by b
