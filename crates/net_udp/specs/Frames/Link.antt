-- How the frames of each link begin (tcpdump.org/linktypes.html), and what they carry.
use Rattle.std.specs.Prelude.{◌≡◌, ◌+◌, ◌*◌, ◌/◌, ◌≤◌, ◌==◌, ◌||◌, ◌&&◌, nat_lt, ℕ, List, length, drop, Option, Some, None, if◌then◌else◌}
use Rattle.net_udp.specs.Frames.Number.{at, pair, four}
use Rattle.net_udp.specs.Frames.Tag.{LeadsTo}
use Rattle.net_udp.specs.declared.frames.link.LinkType.{LinkType}
use Rattle.net_udp.specs.declared.frames.link.LinkType.TheVariants.{Null, Ethernet, Raw, Loop, Cooked, RawIpv4, RawIpv6, CookedTwo}
use Rattle.net_udp.specs.declared.frames.link.Network.{Network}
use Rattle.net_udp.specs.declared.frames.link.Network.TheVariants.{Ipv4, Ipv6}
use Rattle.net_udp.specs.declared.frames.packet.Direction.{Direction}
use Rattle.net_udp.specs.declared.frames.packet.Direction.TheVariants.{Unknown, In, Out}

-- the links that are read, by their number
abbrev pub link_named : ℕ → Option LinkType
link_named n =
    if n == 0 then Some Null
    else (if n == 1 then Some Ethernet
    else (if n == 12 || n == 101 then Some Raw
    else (if n == 108 then Some Loop
    else (if n == 113 then Some Cooked
    else (if n == 228 then Some RawIpv4
    else (if n == 229 then Some RawIpv6
    else (if n == 276 then Some CookedTwo
    else None)))))))

-- the least bytes that a link's header has
abbrev pub least : LinkType → ℕ
least Null = 4
least Ethernet = 14
least Raw = 1
least Loop = 4
least Cooked = 16
least RawIpv4 = 0
least RawIpv6 = 0
least CookedTwo = 20

-- 0x0800 is the type of IPv4, 0x86dd that of IPv6
abbrev pub type_network : ℕ → Option Network
type_network n = if n == 2048 then Some Ipv4 else (if n == 34525 then Some Ipv6 else None)

-- 2 is the address family of IPv4; that of IPv6 is 24, 28 or 30, by system
abbrev pub family_network : ℕ → Option Network
family_network n = if n == 2 then Some Ipv4 else (if n == 24 || n == 28 || n == 30 then Some Ipv6 else None)

-- the version of IP is the upper half of a packet's first byte
abbrev pub version_network : ℕ → Option Network
version_network first = if first / 16 == 4 then Some Ipv4 else (if first / 16 == 6 then Some Ipv6 else None)

-- the first that is one
abbrev pub either : Option Network → Option Network → Option Network
either (Some network) other = Some network
either None other = other

-- the family in either byte order
abbrev pub null_network : List ℕ → Option Network
null_network bytes =
    either (family_network (four bytes 0))
    (family_network (16777216 * at bytes 3 + 65536 * at bytes 2 + 256 * at bytes 1 + at bytes 0))

-- the packet type of Linux cooked: 0 was sent to the host that recorded, 4 by it
abbrev pub packet_direction : ℕ → Direction
packet_direction n = if n == 0 then In else (if n == 4 then Out else Unknown)

-- what the link's header says of the direction
abbrev pub direction_said : LinkType → List ℕ → Direction
direction_said Cooked frame = packet_direction (pair frame 0)
direction_said CookedTwo frame = packet_direction (at frame 10)
direction_said _ frame = Unknown

-- the number of the interface in a link's header: Linux cooked, version 2, has one; 0 where there is none
abbrev pub index_of : ℕ → List ℕ → ℕ
index_of link frame = if (link == 276) && (nat_lt 19 (length frame)) then four frame 4 else 0

-- what a frame carries; no network where it is not IP
pub record Linked : Type 0 where
  pub direction : Direction
  pub network : Option Network
  pub content : List ℕ

-- the network that a type names, over any tags
abbrev pub CarriesTyped : ℕ → List ℕ → Linked → Type 0
CarriesTyped type after c = (last : ℕ) × LeadsTo type after last c.content × (c.network ≡ type_network last)

-- the network, and the bytes after the link's header
abbrev pub Carries : LinkType → List ℕ → Linked → Type 0
Carries Null frame c = (c.network ≡ null_network frame) × (c.content ≡ drop 4 frame)
Carries Ethernet frame c = CarriesTyped (pair frame 12) (drop 14 frame) c
Carries Raw frame c = (c.network ≡ version_network (at frame 0)) × (c.content ≡ frame)
Carries Loop frame c = (c.network ≡ family_network (four frame 0)) × (c.content ≡ drop 4 frame)
Carries Cooked frame c = CarriesTyped (pair frame 14) (drop 16 frame) c
Carries RawIpv4 frame c = (c.network ≡ Some Ipv4) × (c.content ≡ frame)
Carries RawIpv6 frame c = (c.network ≡ Some Ipv6) × (c.content ≡ frame)
Carries CookedTwo frame c = CarriesTyped (pair frame 0) (drop 20 frame) c

-- the frame of this link says it
abbrev pub SpellsLink : LinkType → List ℕ → Linked → Type 0
SpellsLink link frame c = (least link ≤ length frame) × (c.direction ≡ direction_said link frame) × Carries link frame c
