-- Which frames are an IP packet that may carry UDP.
use Rattle.std.specs.Prelude.{◌≡◌, ℕ, List, Some}
use Rattle.net_udp.specs.Frames.Link.{link_named, Linked}
use Rattle.std.specs.declared.net.ip_addr.IpAddr.{IpAddr}
use Rattle.net_udp.specs.Frames.Ip.{Packet, SpellsIp, TellsHosts, source_of, target_of}
use Rattle.net_udp.specs.Frames.Tunnel.{IsCarried}
use Rattle.net_udp.specs.declared.frames.link.LinkType.{LinkType}
use Rattle.net_udp.specs.declared.frames.link.Network.{Network}

-- the frame of the link of this number carries it, over all tunnels
abbrev pub IsLinked : ℕ → List ℕ → Linked → Type 0
IsLinked number frame c = (link : LinkType) × (link_named number ≡ Some link) × IsCarried link frame c

-- the frame is the packet
abbrev pub SpellsFrame : ℕ → List ℕ → Packet → Type 0
SpellsFrame number frame p =
    (c : Linked) × (network : Network) × IsLinked number frame c × (c.network ≡ Some network) × SpellsIp c.direction network c.content p

-- the frame has a whole header of IP, in its innermost packet, which names these hosts, and its extension headers, however much is
-- there of what follows
pub record IsBetween (number : ℕ) (frame : List ℕ) (source target : IpAddr) : Type 0 where
  pub linked : Linked
  pub network : Network
  pub carries : IsLinked number frame linked
  pub of_ip : linked.network ≡ Some network
  pub tells : TellsHosts network linked.content
  pub from : source ≡ source_of network linked.content
  pub to : target ≡ target_of network linked.content
