-- Which frames tell a host that a UDP datagram did not arrive: ICMP, destination unreachable (RFC 792; RFC 4443, section 3.1).
use Rattle.std.specs.Prelude.{◌≡◌, ◌≤◌, ℕ, List, length, drop, None, Some}
use Rattle.net_udp.specs.Frames.Number.{at, pair}
use Rattle.net_udp.specs.Frames.Link.{Linked}
use Rattle.net_udp.specs.Frames.Extension.{Reached}
use Rattle.net_udp.specs.Frames.Frame.{IsLinked}
use Rattle.net_udp.specs.Frames.Ip.{HasHeader, Reaches, source_of, target_of}
use Rattle.net_udp.specs.declared.frames.link.Network.{Network}
use Rattle.net_udp.specs.declared.frames.link.Network.TheVariants.{Ipv4, Ipv6}
use Rattle.net_udp.specs.declared.frames.unreachable.Quoted.{Quoted}
use Rattle.net_udp.specs.declared.frames.unreachable.Unreachable.{Unreachable}

-- the number of ICMP among the protocols of IP
abbrev pub icmp_number : Network → ℕ
icmp_number Ipv4 = 1
icmp_number Ipv6 = 58

-- the type of the message
abbrev pub unreachable_type : Network → ℕ
unreachable_type Ipv4 = 3
unreachable_type Ipv6 = 1

-- The bytes begin with a packet that is no fragment and carries this, however much is there of what follows.
pub record CarriesWhole (network : Network) (bytes : List ℕ) (protocol : ℕ) (content : List ℕ) : Type 0 where
  pub header : HasHeader network bytes
  pub upper : Reached
  pub reaches : Reaches network bytes upper
  pub whole : upper.fragment ≡ None
  pub is : upper.protocol ≡ protocol
  pub carried : content ≡ upper.content

-- The bytes begin with a packet of UDP, of which the ports are there.
pub record Quotes (network : Network) (bytes : List ℕ) (q : Quoted) : Type 0 where
  pub udp : List ℕ
  pub carries : CarriesWhole network bytes 17 udp
  pub ports : 4 ≤ length udp
  pub source : q.source ≡ source_of network bytes
  pub source_port : q.source_port ≡ pair udp 0
  pub target : q.target ≡ target_of network bytes
  pub target_port : q.target_port ≡ pair udp 2

-- The packet carries the message: its type, its code, six bytes more, and the packet that did not arrive.
pub record Tells (network : Network) (bytes : List ℕ) (u : Unreachable) : Type 0 where
  pub message : List ℕ
  pub carries : CarriesWhole network bytes (icmp_number network) message
  pub header : 8 ≤ length message
  pub kind : at message 0 ≡ unreachable_type network
  pub code : u.code ≡ at message 1
  pub from : u.from ≡ source_of network bytes
  pub quotes : Quotes network (drop 8 message) u.quoted

-- so does the frame of the link of this number
pub record TellsUnreachable (number : ℕ) (frame : List ℕ) (u : Unreachable) : Type 0 where
  pub linked : Linked
  pub network : Network
  pub carries : IsLinked number frame linked
  pub of_ip : linked.network ≡ Some network
  pub tells : Tells network linked.content u
