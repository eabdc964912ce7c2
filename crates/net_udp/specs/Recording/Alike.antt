-- Which frames are copies, and which may be (RFC 791, section 3.2; RFC 8200, section 4.5).
use Rattle.std.specs.Prelude.{◌≡◌, ◌⊎◌, ◌<◌, Bool, true, false, List, ◌∷◌, length, Some}
use Rattle.std.specs.List.{slice_get}
use Rattle.net_udp.specs.Copies.{Packet as Recorded, IsCopy}
use Rattle.net_udp.specs.declared.copies.interface.Interface.{Interface}
use Rattle.net_udp.specs.Frames.{SpellsFrame, Packet, index_of, is_identified}
use Rattle.net_pcap.specs.{FrameParts}
use Rattle.net_udp.specs.declared.recording.likeness.Likeness.{Likeness}
use Rattle.net_udp.specs.declared.recording.likeness.Likeness.TheVariants.{New, Doubtful, Copy}

-- where a frame was recorded: the section, the number of the interface in it, and that in the link's header
abbrev pub interface_of : FrameParts → Interface
interface_of frame = record { section = frame.section; number = frame.interface; index = index_of frame.link frame.bytes }

-- the packet of a frame as it was recorded: where, when, and all its bytes, from the IP header on
abbrev pub recorded : FrameParts → Packet → Recorded
recorded frame p = record { interface = interface_of frame; time = frame.time; bytes = p.packet }

-- A packet that is one with a packet before it, of another interface, is a copy where it has an identification. Where it has
-- none, its sender may have sent it twice.
abbrev pub IsLike : List Recorded → FrameParts → Packet → Likeness → Type 0
IsLike before frame p New = IsCopy before (recorded frame p) → ⊥
IsLike before frame p Doubtful = IsCopy before (recorded frame p) × (is_identified p ≡ false)
IsLike before frame p Copy = IsCopy before (recorded frame p) × (is_identified p ≡ true)

-- by whether a packet is one with a packet before it, and whether it has an identification
abbrev pub likeness_by : Bool → Bool → Likeness
likeness_by false is_identified = New
likeness_by true false = Doubtful
likeness_by true true = Copy

abbrev pub is_copy : Likeness → Bool
is_copy New = false
is_copy Doubtful = false
is_copy Copy = true

abbrev pub is_doubtful : Likeness → Bool
is_doubtful New = false
is_doubtful Doubtful = true
is_doubtful Copy = false

-- the frame has no packet that may carry UDP
abbrev pub IsNoPacket : FrameParts → Type 0
IsNoPacket frame = (p : Packet) → SpellsFrame frame.link frame.bytes p → ⊥

-- the frame comes after those packets, and with its own, where it has one, these came
abbrev pub Comes : List Recorded → FrameParts → Likeness → List Recorded → Type 0
Comes before frame likeness came =
    (IsNoPacket frame × (likeness ≡ New) × (came ≡ before))
    ⊎ ((p : Packet) × SpellsFrame frame.link frame.bytes p × IsLike before frame p likeness × (came ≡ recorded frame p ∷ before))

-- memory is wanted for the frame's packet, which is longer than the one that stands 17 before it, if there is one
abbrev pub WantsToHold : List Recorded → FrameParts → Type 0
WantsToHold before frame = (p : Packet) × SpellsFrame frame.link frame.bytes p × ((q : Recorded) → slice_get before 16 ≡ Some q → length q.bytes < length p.packet)
