-- What the bytes of an IP packet say (RFC 791, section 3.1; RFC 8200, section 3). Checksums are not looked at: a
-- recording at the sender has them before they are made.
use Rattle.std.specs.Prelude.{◌≡◌, ◌+◌, ◌-◌, ◌*◌, ◌/◌, ◌%◌, ◌≤◌, ◌==◌, ◌||◌, ◌⊎◌, ℕ, Bool, true, false, List, [], ◌∷◌, length, take, drop, Option, Some, None, nat_lt, if◌then◌else◌}
use Rattle.std.specs.declared.net.ip_addr.IpAddr.{IpAddr}
use Rattle.std.specs.declared.net.ip_addr.IpAddr.TheVariants.{V4, V6}
use Rattle.net_udp.specs.Frames.Number.{at, pair}
use Rattle.net_udp.specs.Frames.Extension.{Reached, ReachesOver, is_wrapping, leads_on}
use Rattle.net_udp.specs.declared.frames.packet.Fragment.{Fragment}
use Rattle.net_udp.specs.declared.frames.packet.Direction.{Direction}
use Rattle.net_udp.specs.declared.frames.link.Network.{Network}
use Rattle.net_udp.specs.declared.frames.link.Network.TheVariants.{Ipv4, Ipv6}

-- a whole header of the version; that of IPv4 has as many words of 4 bytes as the lower half of its first byte says, 5 or more
abbrev pub HasHeader : Network → List ℕ → Type 0
HasHeader Ipv4 bytes = (20 ≤ length bytes) × (at bytes 0 / 16 ≡ 4) × (5 ≤ at bytes 0 % 16) × (4 * (at bytes 0 % 16) ≤ length bytes)
HasHeader Ipv6 bytes = (40 ≤ length bytes) × (at bytes 0 / 16 ≡ 6)

-- how many bytes the header has
abbrev pub size_of : Network → List ℕ → ℕ
size_of Ipv4 bytes = 4 * (at bytes 0 % 16)
size_of Ipv6 bytes = 40

-- how many bytes the packet has: IPv4 counts the header in, IPv6 does not
abbrev pub total_of : Network → List ℕ → ℕ
total_of Ipv4 bytes = pair bytes 2
total_of Ipv6 bytes = 40 + pair bytes 4

-- the address of four bytes
abbrev pub ipv4_address : List ℕ → ℕ → IpAddr
ipv4_address bytes place = V4 (record { octets = at bytes place ∷ at bytes (place + 1) ∷ at bytes (place + 2) ∷ at bytes (place + 3) ∷ [] })

-- the address of sixteen bytes, in groups of two
abbrev pub ipv6_address : List ℕ → ℕ → IpAddr
ipv6_address bytes place = V6 (record { segments = pair bytes place ∷ pair bytes (place + 2) ∷ pair bytes (place + 4) ∷ pair bytes (place + 6) ∷ pair bytes (place + 8) ∷ pair bytes (place + 10) ∷ pair bytes (place + 12) ∷ pair bytes (place + 14) ∷ [] })

abbrev pub source_of : Network → List ℕ → IpAddr
source_of Ipv4 bytes = ipv4_address bytes 12
source_of Ipv6 bytes = ipv6_address bytes 8

abbrev pub target_of : Network → List ℕ → IpAddr
target_of Ipv4 bytes = ipv4_address bytes 16
target_of Ipv6 bytes = ipv6_address bytes 24

abbrev pub identification_of : Network → List ℕ → Option ℕ
identification_of Ipv4 bytes = Some (pair bytes 4)
identification_of Ipv6 bytes = None

-- Of the two bytes at 6 the third bit says that more fragments follow, and the last 13 where this one begins, in units
-- of 8 bytes. Where all of these are 0 the packet is whole (RFC 791, section 3.1).
abbrev pub part_of : List ℕ → Option Fragment
part_of bytes =
    if pair bytes 6 % 16384 == 0 then None
    else Some (record { id = pair bytes 4; place = 8 * (pair bytes 6 % 8192); more = pair bytes 6 / 8192 % 2 == 1 })

-- what is there of the bytes that the packet has after its header; what pads the frame is not of it
abbrev pub held_of : Network → List ℕ → List ℕ
held_of network bytes = take (total_of network bytes - size_of network bytes) (drop (size_of network bytes) bytes)

-- What a packet of IPv4 carries. What may hold another packet is read where it is whole, over authentication (RFC 4302).
abbrev pub ReachesInIpv4 : List ℕ → List ℕ → Reached → Type 0
ReachesInIpv4 bytes content r =
    ((is_wrapping (at bytes 9) ≡ false) × (r ≡ record { protocol = at bytes 9; fragment = part_of bytes; content = content }))
    ⊎ ((is_wrapping (at bytes 9) ≡ true) × (part_of bytes ≡ None) × ReachesOver (at bytes 9) content r)

-- what the packet carries
abbrev pub Reaches : Network → List ℕ → Reached → Type 0
Reaches Ipv4 bytes r = ReachesInIpv4 bytes (held_of Ipv4 bytes) r
Reaches Ipv6 bytes r = ReachesOver (at bytes 6) (held_of Ipv6 bytes) r

-- The packet tells the host to which it goes: its header is there, and what stands over its extension headers is reached, none
-- of which leads on to another host; nor is it a fragment of a packet in which more such headers stand.
abbrev pub TellsHosts : Network → List ℕ → Type 0
TellsHosts network bytes = HasHeader network bytes × ((r : Reached) × Reaches network bytes r × (leads_on r ≡ false))

abbrev pub is_part : Option Fragment → Bool
is_part None = false
is_part (Some part) = true

-- UDP, or a fragment of IPv6: what the packet carries only its first fragment tells (RFC 8200, section 4.5)
abbrev pub may_be_udp : Network → Reached → Bool
may_be_udp Ipv4 r = r.protocol == 17
may_be_udp Ipv6 r = (r.protocol == 17) || is_part r.fragment

-- a packet, or a fragment of one
pub record Packet : Type 0 where
  pub direction : Direction
  pub source : IpAddr
  pub target : IpAddr
  pub protocol : ℕ
  pub identification : Option ℕ
  pub fragment : Option Fragment
  pub content : List ℕ
  pub packet : List ℕ

abbrev pub packet_of : Direction → Network → List ℕ → Reached → Packet
packet_of direction network bytes r = record {
  direction = direction;
  source = source_of network bytes;
  target = target_of network bytes;
  protocol = r.protocol;
  identification = identification_of network bytes;
  fragment = r.fragment;
  content = r.content;
  packet = take (total_of network bytes) bytes;
}

-- the packet is as long as its header or longer, and all its bytes are there
abbrev pub IsWhole : Network → List ℕ → Type 0
IsWhole network bytes = (size_of network bytes ≤ total_of network bytes) × (total_of network bytes ≤ length bytes)

-- the bytes begin with a whole packet of the network, which may carry UDP
pub record SpellsIp (direction : Direction) (network : Network) (bytes : List ℕ) (p : Packet) : Type 0 where
  pub header : HasHeader network bytes
  pub whole : IsWhole network bytes
  pub upper : Reached
  pub reaches : Reaches network bytes upper
  pub udp : may_be_udp network upper ≡ true
  pub packet : p ≡ packet_of direction network bytes upper

-- an identification is given: in IPv4 one that is not 0, in IPv6 that of a fragment
abbrev pub is_given : Option ℕ → Option Fragment → Bool
is_given (Some id) fragment = nat_lt 0 id
is_given None fragment = is_part fragment

-- The packet has an identification, by which it differs from what its sender sent to the same target at about that time
-- (RFC 791, section 3.2; RFC 8200, section 4.5).
abbrev pub is_identified : Packet → Bool
is_identified p = is_given p.identification p.fragment
