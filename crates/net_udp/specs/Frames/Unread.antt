-- Headers behind which a datagram may stand, and that are not read: the one at which the reading of a frame ends, by its name.
use Rattle.std.specs.Prelude.{◌≡◌, ◌⊎◌, ◌≤◌, ◌==◌, ◌&&◌, ◌||◌, not, nat_lt, ℕ, zero, suc, List, length, drop, codes, Option, Some, None, if◌then◌else◌}
use Rattle.net_udp.specs.Frames.Number.{at, pair}
use Rattle.net_udp.specs.Frames.Tag.{IsOver, shim_size}
use Rattle.net_udp.specs.Frames.Link.{Linked, least, link_named}
use Rattle.net_udp.specs.Frames.Extension.{IsSkipped, is_atomic, skipped_size}
use Rattle.net_udp.specs.Frames.Ip.{HasHeader, held_of, part_of}
use Rattle.net_udp.specs.Frames.Tunnel.{IsCarried}
use Rattle.net_udp.specs.declared.frames.link.LinkType.{LinkType}
use Rattle.net_udp.specs.declared.frames.link.LinkType.TheVariants.{Ethernet, Cooked, CookedTwo}
use Rattle.net_udp.specs.declared.frames.link.Network.{Network}
use Rattle.net_udp.specs.declared.frames.link.Network.TheVariants.{Ipv4, Ipv6}
use Rattle.net_udp.specs.declared.frames.unread.UnreadHeader.{UnreadHeader}
use Rattle.net_udp.specs.declared.frames.unread.UnreadHeader.TheVariants.{MacSec, Backbone, PortExtension, Trill, ServiceHeader, SwitchTag, Esp, MinimalEncapsulation, EthernetInIp, IpComp, L2tp, LabelsInIp, Mobility, HostIdentity, Shim6, Routing}

-- ---- on the frame's own link

-- what a type names behind which nothing is read: 0x88e5, 0x88e7, 0x893f, 0x22f3, 0x894f and 0xdada (see `is_sealed`)
abbrev pub sealed_by : ℕ → Option UnreadHeader
sealed_by n =
    if n == 35045 then Some MacSec
    else (if n == 35047 then Some Backbone
    else (if n == 35135 then Some PortExtension
    else (if n == 8947 then Some Trill
    else (if n == 35151 then Some ServiceHeader
    else (if n == 56026 then Some SwitchTag
    else None)))))

-- after a type stand so many tags and the like that are read, and then it
abbrev pub SealedOver : ℕ → ℕ → List ℕ → UnreadHeader → Type 0
SealedOver zero type bytes u = sealed_by type ≡ Some u
SealedOver (suc shims) type bytes u = (next : ℕ) × IsOver type bytes next × SealedOver shims next (drop (shim_size type) bytes) u

-- after a type, over any number of them
abbrev pub IsSealed : ℕ → List ℕ → UnreadHeader → Type 0
IsSealed type bytes u = (shims : ℕ) × SealedOver shims type bytes u

-- the type in a link's header; none where it has none
abbrev pub type_in : LinkType → List ℕ → Option ℕ
type_in Ethernet frame = Some (pair frame 12)
type_in Cooked frame = Some (pair frame 14)
type_in CookedTwo frame = Some (pair frame 0)
type_in _ frame = None

-- it stands on the frame's own link
abbrev pub IsSealedIn : LinkType → List ℕ → UnreadHeader → Type 0
IsSealedIn link frame u = (type : ℕ) × (least link ≤ length frame) × (type_in link frame ≡ Some type) × IsSealed type (drop (least link) frame) u

-- ---- in a packet of IP

-- what a protocol of IP names that hides the rest (see `is_hiding`)
abbrev pub hidden_by : ℕ → Option UnreadHeader
hidden_by n =
    if n == 50 then Some Esp
    else (if n == 55 then Some MinimalEncapsulation
    else (if n == 97 || n == 143 then Some EthernetInIp
    else (if n == 108 then Some IpComp
    else (if n == 115 then Some L2tp
    else (if n == 137 then Some LabelsInIp
    else None)))))

-- a routing header with segments left, whose packet is not where it goes (RFC 8200, section 4.4)
abbrev pub routed_on : List ℕ → Option UnreadHeader
routed_on bytes = if nat_lt 7 (length bytes) && nat_lt 0 (at bytes 3) then Some Routing else None

-- what a fragment is one of, as its header names it (RFC 8200, section 4.5)
abbrev pub hidden_part : List ℕ → Option UnreadHeader
hidden_part bytes = if nat_lt 7 (length bytes) && not (is_atomic bytes) then hidden_by (at bytes 0) else None

-- the header with which the bytes begin, by its number, if it is one that is not read: 43 is routing, 44 that of a fragment
abbrev pub unread_by : ℕ → List ℕ → Option UnreadHeader
unread_by next bytes =
    if next == 43 then routed_on bytes
    else (if next == 44 then hidden_part bytes
    else (if next == 135 then Some Mobility
    else (if next == 139 then Some HostIdentity
    else (if next == 140 then Some Shim6
    else hidden_by next))))

-- over so many headers that are skipped stands it
abbrev pub UnreadAfter : ℕ → ℕ → List ℕ → UnreadHeader → Type 0
UnreadAfter zero next bytes u = unread_by next bytes ≡ Some u
UnreadAfter (suc headers) next bytes u = IsSkipped next bytes × UnreadAfter headers (at bytes 0) (drop (skipped_size next bytes) bytes) u

-- over any number of them
abbrev pub IsUnreadOver : ℕ → List ℕ → UnreadHeader → Type 0
IsUnreadOver next bytes u = (headers : ℕ) × UnreadAfter headers next bytes u

-- In IPv4 the packet's own header names it, in each fragment; or it stands behind authentication (51) in a whole packet (RFC 4302).
abbrev pub UnreadInIpv4 : List ℕ → List ℕ → UnreadHeader → Type 0
UnreadInIpv4 bytes content u = (hidden_by (at bytes 9) ≡ Some u) ⊎ ((at bytes 9 ≡ 51) × (part_of bytes ≡ None) × IsUnreadOver 51 content u)

-- in what a packet has after its header, however much is there of it
abbrev pub UnreadIn : Network → List ℕ → UnreadHeader → Type 0
UnreadIn Ipv4 bytes u = UnreadInIpv4 bytes (held_of Ipv4 bytes) u
UnreadIn Ipv6 bytes u = IsUnreadOver (at bytes 6) (held_of Ipv6 bytes) u

-- it stands in the packet of IP with which the bytes begin
abbrev pub IsUnreadInIp : Network → List ℕ → UnreadHeader → Type 0
IsUnreadInIp network bytes u = HasHeader network bytes × UnreadIn network bytes u

-- it stands in the packet of IP that the frame carries, over all tunnels
abbrev pub IsUnreadInside : LinkType → List ℕ → UnreadHeader → Type 0
IsUnreadInside link frame u = (c : Linked) × (network : Network) × IsCarried link frame c × (c.network ≡ Some network) × IsUnreadInIp network c.content u

-- ---- in a frame

-- The frame of the link of this number has it, on its own link or in its innermost packet of IP. What is not read on the link of a
-- frame in a tunnel has no name here.
abbrev pub HasUnread : ℕ → List ℕ → UnreadHeader → Type 0
HasUnread number frame u = (link : LinkType) × (link_named number ≡ Some link) × (IsSealedIn link frame u ⊎ IsUnreadInside link frame u)

-- ---- how it is told

-- its name, and the standard that has it
abbrev pub header_name : UnreadHeader → List ℕ
header_name MacSec = codes "MACsec (IEEE 802.1AE)"
header_name Backbone = codes "IEEE 802.1ah"
header_name PortExtension = codes "IEEE 802.1BR"
header_name Trill = codes "TRILL (RFC 6325)"
header_name ServiceHeader = codes "NSH (RFC 8300)"
header_name SwitchTag = codes "a tag of Marvell's switches"
header_name Esp = codes "ESP (RFC 4303)"
header_name MinimalEncapsulation = codes "minimal encapsulation (RFC 2004)"
header_name EthernetInIp = codes "Ethernet in IP (RFC 3378, RFC 8986)"
header_name IpComp = codes "IPComp (RFC 3173)"
header_name L2tp = codes "L2TP (RFC 3931)"
header_name LabelsInIp = codes "MPLS in IP (RFC 4023)"
header_name Mobility = codes "a mobility header (RFC 6275)"
header_name HostIdentity = codes "HIP (RFC 7401)"
header_name Shim6 = codes "Shim6 (RFC 5533)"
header_name Routing = codes "a routing header with segments left (RFC 8200)"
