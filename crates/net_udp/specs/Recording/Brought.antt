-- What a frame does among the fragments that wait (RFC 791, section 3.2; RFC 8200, section 4.5).
use Rattle.std.specs.Prelude.{◌≡◌, ◌≢◌, ◌⊎◌, ℕ, Bool, true, false, List, [], Option, Some, None}
use Rattle.std.specs.declared.net.ip_addr.IpAddr.{IpAddr}
use Rattle.std.specs.declared.net.ip_addr.IpAddr.TheVariants.{V4, V6}
use Rattle.net_udp.specs.Frames.{SpellsFrame, Packet}
use Rattle.net_udp.specs.declared.frames.packet.Fragment.{Fragment}
use Rattle.net_udp.specs.Fragments.{same_key, Arrival, SetState, Sets, CountsAt, HasRoom, IsFull, IsTried, MayBePut, PutEnds, WantsMemory, is_long, room_of_all, set_at}
use Rattle.net_udp.specs.declared.fragments.outcome.Outcome.{Outcome}
use Rattle.net_udp.specs.declared.fragments.outcome.Outcome.TheVariants.{Full}
use Rattle.net_udp.specs.Fragments.Whole.{Part}
use Rattle.net_udp.specs.declared.fragments.key.Key.{Key}
use Rattle.net_pcap.specs.{FrameParts}

-- the frames that had waited too long, the fragments that had to make room, and what became of the frame as a fragment
pub record BroughtState : Type 0 where
  pub old : List ℕ
  pub ousted : Sets
  pub outcome : Option Outcome

abbrev pub nothing_brought : BroughtState
nothing_brought = record { old = []; ousted = []; outcome = None }

-- The protocol tells packets of IPv4 apart (RFC 791, section 3.2), but not those of IPv6, of which only the first fragment
-- tells it (RFC 8200, section 4.5).
abbrev pub key_protocol : IpAddr → ℕ → Option ℕ
key_protocol (V4 host) protocol = Some protocol
key_protocol (V6 host) protocol = None

-- what tells the packet of a fragment from others
abbrev pub key_of : Packet → Fragment → Key
key_of p f = record { source = p.source; target = p.target; protocol = key_protocol p.source p.protocol; id = f.id }

-- fragments may overlap in IPv4 (RFC 791, section 3.2), and not in IPv6 (RFC 8200, section 4.5)
abbrev pub may_overlap : IpAddr → Bool
may_overlap (V4 host) = true
may_overlap (V6 host) = false

-- the part that a fragment brings, with the time and the number of its frame
abbrev pub arrival_of : FrameParts → ℕ → Packet → Fragment → Arrival
arrival_of frame number p f = record { part = record { protocol = p.protocol; place = f.place; more = f.more; content = p.content; may_overlap = may_overlap p.source }; time = frame.time; frame = number }

-- what waits under every other key stays
abbrev pub OthersStay : Key → Sets → Sets → Type 0
OthersStay key old new = (other : Key) → same_key key other ≡ false → set_at other new ≡ set_at other old

-- what waits under the key is let go where it began more than 30 s before that time, or after it
pub record LetsGoOld (key : Key) (time : Option ℕ) (old new : Sets) (gone : List ℕ) : Type 0 where
  pub others : OthersStay key old new
  pub counted : CountsAt key old new
  pub none : set_at key old ≡ None → (set_at key new ≡ None) × (gone ≡ [])
  pub long : (s : SetState) → set_at key old ≡ Some s → is_long s.began time ≡ true → (set_at key new ≡ None) × (gone ≡ s.frames)
  pub young : (s : SetState) → set_at key old ≡ Some s → is_long s.began time ≡ false → (set_at key new ≡ Some s) × (gone ≡ [])

-- all that waits is let go where there is no room beside it for the part, which may be put, and else nothing is
abbrev pub MakesRoom : Part → Sets → Sets → Sets → Type 0
MakesRoom p old new ousted =
    ((ousted ≡ []) × (new ≡ old) × (MayBePut p → HasRoom (room_of_all old) p))
    ⊎ (IsFull (room_of_all old) p × (ousted ≡ old) × (new ≡ []) × MayBePut p)

-- a fragment comes: what is too old is let go, all where there is no room, and then it is put with the others of its packet
pub record TakesPart (key : Key) (a : Arrival) (old new : Sets) (b : BroughtState) : Type 0 where
  pub young : Sets
  pub roomy : Sets
  pub outcome : Outcome
  pub lets_go : LetsGoOld key a.time old young b.old
  pub makes_room : MakesRoom a.part young roomy b.ousted
  pub others : OthersStay key roomy new
  pub counted : CountsAt key roomy new
  pub ends : PutEnds (set_at key roomy) (set_at key new) (room_of_all roomy) a outcome
  pub tried : IsTried (room_of_all roomy) a.part outcome
  pub not_full : outcome ≢ Full
  pub is : b.outcome ≡ Some outcome

-- memory is wanted for the fragment
pub record WantsPart (key : Key) (a : Arrival) (old : Sets) : Type 0 where
  pub young : Sets
  pub roomy : Sets
  pub gone : List ℕ
  pub ousted : Sets
  pub lets_go : LetsGoOld key a.time old young gone
  pub makes_room : MakesRoom a.part young roomy ousted
  pub wants : WantsMemory (set_at key roomy) (room_of_all roomy) a.part

-- the frame is no fragment of a packet that may carry UDP
abbrev pub IsNoPart : FrameParts → Type 0
IsNoPart frame = (p : Packet) → SpellsFrame frame.link frame.bytes p → p.fragment ≡ None

-- the frame is this fragment of this packet
abbrev pub IsPart : FrameParts → Packet → Fragment → Type 0
IsPart frame p f = SpellsFrame frame.link frame.bytes p × (p.fragment ≡ Some f)

-- the frame, which may be a copy, does nothing among the fragments
abbrev pub DoesNothing : Bool → FrameParts → Type 0
DoesNothing true frame = Unit {0}
DoesNothing false frame = IsNoPart frame

-- what the frame of that number does, by whether it is a copy
abbrev pub Takes : Bool → Sets → FrameParts → ℕ → BroughtState → Sets → Type 0
Takes is_copy old frame number b new =
    (DoesNothing is_copy frame × (b ≡ nothing_brought) × (new ≡ old))
    ⊎ ((p : Packet) × (f : Fragment) × IsPart frame p f × TakesPart (key_of p f) (arrival_of frame number p f) old new b × (is_copy ≡ false))

-- memory is wanted for the frame, which is a fragment
abbrev pub Wants : Sets → FrameParts → ℕ → Type 0
Wants old frame number = (p : Packet) × (f : Fragment) × IsPart frame p f × WantsPart (key_of p f) (arrival_of frame number p f) old
