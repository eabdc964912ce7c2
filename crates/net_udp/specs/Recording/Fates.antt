-- What became of a frame.
use Rattle.std.specs.Prelude.{◌≡◌, ◌≢◌, ◌⊎◌, ℕ, Bool, true, false, List, [], Option, Some, None}
use Rattle.net_udp.specs.Fragments.{content_of as put_together}
use Rattle.net_udp.specs.declared.fragments.outcome.Outcome.{Outcome}
use Rattle.net_udp.specs.Fragments.Whole.{Content}
use Rattle.net_udp.specs.declared.fragments.outcome.Outcome.TheVariants as outcome
use Rattle.net_udp.specs.Frames.{FirstFault, SpellsFrame, Packet, Udp, HoldsUdp, IsSound, SpellsUdp}
use Rattle.net_udp.specs.declared.frames.fault.UdpFault.{UdpFault}
use Rattle.net_udp.specs.declared.frames.packet.Direction.{Direction as LinkDirection}
use Rattle.net_udp.specs.declared.frames.fault.FrameFault.TheVariants.{Protocol}
use Rattle.net_udp.specs.declared.frames.fault.UdpFault.TheVariants.{Protocol as NotUdp}
use Rattle.net_udp.specs.declared.frames.packet.Direction.TheVariants as link
use Rattle.net_pcap.specs.{FrameParts, Direction, In, Out}
use Rattle.net_udp.specs.declared.recording.fate.Datagram.{Datagram as Given}
use Rattle.net_udp.specs.declared.recording.fate.Fate.{Fate}
use Rattle.net_udp.specs.declared.recording.fate.Fate.TheVariants.{Datagram, Discarded, Left, Waits}
use Rattle.net_udp.specs.declared.recording.fate.LeftOut.TheVariants.{Frame, Udp as NoUdp, Apart, Empty, TooLong, Full, Copy}
use Rattle.net_udp.specs.declared.recording.likeness.Likeness.{Likeness}
use Rattle.net_udp.specs.declared.recording.likeness.Likeness.TheVariants as likeness

-- which way a frame went: what the link says, and where that says nothing, what the recording does
abbrev pub direction_of : Direction → LinkDirection → Direction
direction_of recorded link.Unknown = recorded
direction_of recorded link.In = In
direction_of recorded link.Out = Out

-- the datagram has the hosts of the packet, the ports and the payload of UDP, and the direction of the frame
pub record IsDatagram (frame : FrameParts) (p : Packet) (udp : Udp) (d : Given) : Type 0 where
  pub direction : d.direction ≡ direction_of frame.direction p.direction
  pub source : d.source ≡ p.source
  pub source_port : d.source_port ≡ udp.source_port
  pub target : d.target ≡ p.target
  pub target_port : d.target_port ≡ udp.target_port
  pub payload : d.payload.now ≡ udp.payload

-- the content of a packet: the one that was put together, or else the packet's own
abbrev pub content_of : Packet → Option Content → Content
content_of p None = record { protocol = p.protocol; bytes = p.content }
content_of p (Some whole) = whole

-- that content has the fault
abbrev pub HasFault : FrameParts → Option Content → UdpFault → Type 0
HasFault frame whole fault = (p : Packet) × SpellsFrame frame.link frame.bytes p × HoldsUdp fault (content_of p whole).protocol (content_of p whole).bytes

-- What a frame says whose packet is whole, or was put together. Where this is of another protocol than UDP, the same is
-- told as of one that came whole.
abbrev pub Says : FrameParts → Option Content → Fate → Type 0
Says frame whole (Datagram d) = (p : Packet) × (udp : Udp) × SpellsFrame frame.link frame.bytes p × SpellsUdp (content_of p whole).protocol (content_of p whole).bytes udp × IsDatagram frame p udp d
Says frame whole (Left (Frame fault)) = FirstFault frame.link frame.bytes fault ⊎ ((fault ≡ Protocol) × HasFault frame whole NotUdp)
Says frame whole (Left (NoUdp fault)) = HasFault frame whole fault × (fault ≢ NotUdp)
Says frame whole (Left Apart) = ⊥
Says frame whole (Left Empty) = ⊥
Says frame whole (Left TooLong) = ⊥
Says frame whole (Left Full) = ⊥
Says frame whole (Left Copy) = ⊥
Says frame whole Waits = ⊥
Says frame whole (Discarded d) = ⊥

-- what became of a frame that is no copy, by what became of it as a fragment
abbrev pub IsFate : FrameParts → Option Outcome → Fate → Type 0
IsFate frame None fate = Says frame None fate
IsFate frame (Some outcome.Waits) fate = fate ≡ Waits
IsFate frame (Some (outcome.Whole content frames)) fate = Says frame (Some (put_together content)) fate
IsFate frame (Some (outcome.Apart frames)) fate = fate ≡ Left Apart
IsFate frame (Some outcome.Empty) fate = fate ≡ Left Empty
IsFate frame (Some outcome.TooLong) fate = fate ≡ Left TooLong
IsFate frame (Some outcome.Full) fate = fate ≡ Left Full

-- a datagram that its host discarded is left out
abbrev pub IsFateBy : Bool → FrameParts → Option Outcome → Fate → Type 0
IsFateBy false frame outcome fate = IsFate frame outcome fate
IsFateBy true frame outcome (Datagram d) = ⊥
IsFateBy true frame outcome (Left why) = IsFate frame outcome (Left why)
IsFateBy true frame outcome Waits = IsFate frame outcome Waits
IsFateBy true frame outcome (Discarded d) = IsFate frame outcome (Datagram d)

-- what became of a frame, by whether its host discarded its datagram: a copy is left out
abbrev pub IsFateOf : FrameParts → Likeness → Option Outcome → Bool → Fate → Type 0
IsFateOf frame likeness.New outcome is_discarded fate = IsFateBy is_discarded frame outcome fate
IsFateOf frame likeness.Doubtful outcome is_discarded fate = IsFateBy is_discarded frame outcome fate
IsFateOf frame likeness.Copy outcome is_discarded fate = fate ≡ Left Copy

-- the frames that share it
abbrev pub sharers : Option Outcome → List ℕ
sharers None = []
sharers (Some outcome.Waits) = []
sharers (Some (outcome.Whole content frames)) = frames.items
sharers (Some (outcome.Apart frames)) = frames.items
sharers (Some outcome.Empty) = []
sharers (Some outcome.TooLong) = []
sharers (Some outcome.Full) = []

-- the ports and the payload of a datagram are sound
abbrev pub IsSoundFate : Fate → Type 0
IsSoundFate (Datagram d) = IsSound (record { source_port = d.source_port; target_port = d.target_port; payload = d.payload.now })
IsSoundFate (Left why) = Unit {0}
IsSoundFate Waits = Unit {0}
IsSoundFate (Discarded d) = IsSound (record { source_port = d.source_port; target_port = d.target_port; payload = d.payload.now })
