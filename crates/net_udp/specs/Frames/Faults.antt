-- Why a frame is no IP packet that may carry UDP. The faults stand in the order in which they are tried.
use Rattle.std.specs.Prelude.{◌≡◌, ◌<◌, ◌≤◌, ℕ, false, List, length, Some, None, Result, MatchResult}
use Rattle.net_udp.specs.Frames.Link.{link_named, Linked}
use Rattle.net_udp.specs.Frames.Extension.{Reached}
use Rattle.net_udp.specs.Frames.Ip.{HasHeader, size_of, total_of, Reaches, may_be_udp, SpellsIp}
use Rattle.net_udp.specs.Frames.Tunnel.{IsCarried}
use Rattle.net_udp.specs.Frames.Frame.{IsLinked, SpellsFrame}
use Rattle.net_udp.specs.Frames.Parts.{shown}
use Rattle.net_udp.specs.declared.frames.link.LinkType.{LinkType}
use Rattle.net_udp.specs.declared.frames.link.Network.{Network}
use Rattle.net_udp.specs.declared.frames.packet.Direction.{Direction}
use Rattle.net_udp.specs.declared.frames.packet.IpPacket.{IpPacket}
use Rattle.net_udp.specs.declared.frames.fault.FrameFault.{FrameFault}
use Rattle.net_udp.specs.declared.frames.fault.FrameFault.TheVariants.{Link, Frame, Network as NotIp, Header, Protocol, Length, Cut, Extension}

-- what a fault says of the bytes of a packet
abbrev pub HoldsIp : FrameFault → Network → List ℕ → Type 0
HoldsIp Header network bytes = HasHeader network bytes → ⊥
HoldsIp Protocol network bytes = HasHeader network bytes × ((r : Reached) × Reaches network bytes r × (may_be_udp network r ≡ false))
HoldsIp Length network bytes = HasHeader network bytes × (total_of network bytes < size_of network bytes)
HoldsIp Cut network bytes = HasHeader network bytes × (length bytes < total_of network bytes)
HoldsIp Extension network bytes = HasHeader network bytes × ((r : Reached) → Reaches network bytes r → ⊥)
HoldsIp _ network bytes = ⊥

-- the fault of a length
abbrev pub IsNotWhole : FrameFault → Network → List ℕ → Type 0
IsNotWhole Length network bytes = total_of network bytes < size_of network bytes
IsNotWhole Cut network bytes = (size_of network bytes ≤ total_of network bytes) × (length bytes < total_of network bytes)
IsNotWhole _ network bytes = ⊥

-- what a fault says of a frame
abbrev pub Holds : FrameFault → ℕ → List ℕ → Type 0
Holds Link number frame = link_named number ≡ None
Holds Frame number frame = (link : LinkType) × (link_named number ≡ Some link) × ((c : Linked) → IsCarried link frame c → ⊥)
Holds NotIp number frame = (c : Linked) × IsLinked number frame c × (c.network ≡ None)
Holds fault number frame = (c : Linked) × (network : Network) × IsLinked number frame c × (c.network ≡ Some network) × HoldsIp fault network c.content

-- the place of a fault in the order
abbrev pub place : FrameFault → ℕ
place Link = 1
place Frame = 2
place NotIp = 3
place Header = 4
place Protocol = 5
place Length = 6
place Cut = 7
place Extension = 8

-- the fault holds of the packet, and none that stands before it does
abbrev pub FirstIpFault : Network → List ℕ → FrameFault → Type 0
FirstIpFault network bytes fault = HoldsIp fault network bytes × ((earlier : FrameFault) → place earlier < place fault → HoldsIp earlier network bytes → ⊥)

-- the packet that the bytes begin with, or the first fault
abbrev pub JudgesIp : Direction → Network → List ℕ → Result IpPacket FrameFault → Type 0
JudgesIp direction network bytes result = MatchResult result (λ p. SpellsIp direction network bytes (shown p)) (FirstIpFault network bytes)

-- the fault holds of the frame, and none that stands before it does
abbrev pub FirstFault : ℕ → List ℕ → FrameFault → Type 0
FirstFault number frame fault = Holds fault number frame × ((earlier : FrameFault) → place earlier < place fault → Holds earlier number frame → ⊥)

-- the packet that the frame is, or the first fault
abbrev pub Judges : ℕ → List ℕ → Result IpPacket FrameFault → Type 0
Judges number frame result = MatchResult result (λ p. SpellsFrame number frame (shown p)) (FirstFault number frame)
