-- What the named end keeps from the reply on, whichever end it is, and for which datagrams that stands. The list `passed`
-- has the datagrams of the transfer that have passed at this end, the newest first.
use Rattle.std.specs.Prelude.{◌≡◌, ℕ, List, Some}
use Rattle.std.specs.FinMap as map
use Rattle.tftp_packet.specs.Hosts.{Datagram}
use Rattle.law_model.specs.Rules.{IsJoined, IsLast}
use Rattle.law_model.specs.{Terms}
use Rattle.tftp_ends.specs.Blocks.{Held, IsHeldFront, IsJoin}
use Rattle.tftp_ends.specs.States.{Sender, Receiver, IsSenderAfter, IsReceiverAfter, IsAllAnswered, IsAllTaken}

-- the state of the sender or of the receiver
pub data NamedEnd : Type 0 where
  Sends : (s : Sender) → NamedEnd
  Receives : (r : Receiver) → NamedEnd

abbrev pub terms_of : NamedEnd → Terms
terms_of (Sends s) = s.terms
terms_of (Receives r) = r.terms

abbrev pub held_of : NamedEnd → Held
held_of (Sends s) = s.held
held_of (Receives r) = r.held

-- The end stands for these datagrams.
abbrev pub IsEndAfter : NamedEnd → List Datagram → Type 0
IsEndAfter (Sends s) passed = IsSenderAfter s passed
IsEndAfter (Receives r) passed = IsReceiverAfter r passed

-- the end is the sender and holds this block, which it has sent (RFC 1350, section 2)
abbrev pub HoldsBlock : NamedEnd → ℕ → List ℕ → Type 0
HoldsBlock (Sends s) k bytes = map.get s.held k ≡ Some bytes
HoldsBlock (Receives r) k bytes = ⊥

-- the transfer is over at this end (RFC 1350, section 6)
abbrev pub IsEndDone : NamedEnd → List Datagram → Type 0
IsEndDone (Sends s) passed = IsAllAnswered s.terms passed
IsEndDone (Receives r) passed = IsAllTaken r.terms passed

-- the blocks that are held up to the front are the whole wire
abbrev pub HoldsWire : NamedEnd → List Datagram → Type 0
HoldsWire end passed =
    (front : ℕ) (wire : List ℕ) → IsHeldFront (held_of end) front → IsJoin (held_of end) front wire
    → IsLast (terms_of end) passed front × IsJoined (terms_of end).blksize passed front wire
