-- What the checksums say of a frame's datagram, and who sent it.
use Rattle.std.specs.Prelude.{◌≡◌, ℕ, List, Option, Some, None, take}
use Rattle.net_udp.specs.Fragments.{content_of as put_together}
use Rattle.net_udp.specs.declared.fragments.outcome.Outcome.{Outcome}
use Rattle.net_udp.specs.Fragments.Whole.{Content}
use Rattle.net_udp.specs.declared.fragments.outcome.Outcome.TheVariants as outcome
use Rattle.net_udp.specs.Frames.{SpellsFrame, Packet, HasUdp, IsSized, SpellsUdp, Udp, pair, checksum_of}
use Rattle.net_udp.specs.declared.frames.checksum.Checksum.TheVariants.{Absent}
use Rattle.net_udp.specs.declared.frames.checksum.Checksum.{Checksum}
use Rattle.net_pcap.specs.{FrameParts}
use Rattle.net_udp.specs.Recording.Fates.{content_of}
use Rattle.net_udp.specs.declared.recording.likeness.Likeness.{Likeness}
use Rattle.net_udp.specs.declared.recording.likeness.Likeness.TheVariants as likeness
use Rattle.net_udp.specs.declared.recording.sent.Sent.{Sent}

-- it is that of the datagram which the content of the frame's packet is, its own or that which was put together
abbrev pub IsChecksum : FrameParts → Option Content → Checksum → Type 0
IsChecksum frame whole checksum =
    (p : Packet) (bytes : List ℕ) → SpellsFrame frame.link frame.bytes p → HasUdp (content_of p whole).protocol (content_of p whole).bytes bytes → IsSized bytes
    → checksum ≡ checksum_of p (take (pair bytes 4) bytes)

-- the frame's packet has this datagram, in its content or in that which was put together
abbrev pub HasDatagram : FrameParts → Option Content → Packet → Udp → Type 0
HasDatagram frame whole p udp = SpellsFrame frame.link frame.bytes p × SpellsUdp (content_of p whole).protocol (content_of p whole).bytes udp

-- of a datagram the host that sent it, and what its checksums say; of other frames nothing
abbrev pub IsSentBy : FrameParts → Option Content → Option Sent → Type 0
IsSentBy frame whole None = (p : Packet) (udp : Udp) → HasDatagram frame whole p udp → ⊥
IsSentBy frame whole (Some sent) = (p : Packet) × (udp : Udp) × HasDatagram frame whole p udp × (sent.host ≡ p.source) × IsChecksum frame whole sent.checksum

-- by what became of the frame as a fragment
abbrev pub IsSent : FrameParts → Option Outcome → Option Sent → Type 0
IsSent frame None sent = IsSentBy frame None sent
IsSent frame (Some (outcome.Whole content frames)) sent = IsSentBy frame (Some (put_together content)) sent
IsSent frame _ sent = sent ≡ None

-- a copy tells nothing
abbrev pub IsSentOf : FrameParts → Likeness → Option Outcome → Option Sent → Type 0
IsSentOf frame likeness.New outcome sent = IsSent frame outcome sent
IsSentOf frame likeness.Doubtful outcome sent = IsSent frame outcome sent
IsSentOf frame likeness.Copy outcome sent = sent ≡ None

-- what the checksums say of a datagram, and Absent of all else
abbrev pub checksum_told : Option Sent → Checksum
checksum_told None = Absent
checksum_told (Some sent) = sent.checksum
