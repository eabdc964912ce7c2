-- Packets in packets: IP in IP (RFC 2003; RFC 2473; RFC 4213), GRE (RFC 2784; RFC 2890), ERSPAN in it, and tunnels over UDP.
use Rattle.std.specs.Prelude.{◌≡◌, ◌≢◌, ◌⊎◌, ◌+◌, ◌*◌, ◌/◌, ◌%◌, ◌≤◌, ◌==◌, ◌&&◌, ◌||◌, not, ℕ, zero, suc, Bool, true, false, List, length, drop, Option, Some, None, if◌then◌else◌}
use Rattle.net_udp.specs.Frames.Number.{at, pair}
use Rattle.net_udp.specs.Frames.Link.{Linked, SpellsLink, CarriesTyped}
use Rattle.net_udp.specs.Frames.OverUdp.{over_udp_size, over_udp_type, payload_of}
use Rattle.net_udp.specs.Frames.Extension.{Reached, is_opened}
use Rattle.net_udp.specs.Frames.Ip.{HasHeader, Reaches}
use Rattle.net_udp.specs.declared.frames.link.LinkType.{LinkType}
use Rattle.net_udp.specs.declared.frames.link.Network.{Network}
use Rattle.net_udp.specs.declared.frames.link.Network.TheVariants.{Ipv4, Ipv6}

-- the packet with which the bytes begin is one of a tunnel, and carries this
abbrev pub IsTunnel : Network → List ℕ → Reached → Type 0
IsTunnel network bytes r = HasHeader network bytes × Reaches network bytes r × (is_opened r ≡ true)

-- the number of GRE, and that of UDP
abbrev pub gre : ℕ
gre = 47

abbrev pub udp : ℕ
udp = 17

-- protocol 4 is IPv4, and 41 IPv6
abbrev pub network_in_ip : ℕ → Option Network
network_in_ip n = if n == 4 then Some Ipv4 else (if n == 41 then Some Ipv6 else None)

-- Of the first byte of GRE the first bit says that a checksum is there, the third a key and the fourth a number, of 4 bytes each
-- (RFC 2784, section 2; RFC 2890, section 2).
abbrev pub gre_size : List ℕ → ℕ
gre_size header = 4 + 4 * (at header 0 / 128 + at header 0 / 32 % 2 + at header 0 / 16 % 2)

-- The second bit and the fifth and sixth are 0, and so is the version; any other header is not read (RFC 2784, section 2.3).
abbrev pub is_gre_read : List ℕ → Bool
is_gre_read header = (at header 0 / 64 % 2 == 0) && (at header 0 / 4 % 4 == 0) && (at header 1 % 8 == 0)

-- IPv4, IPv6, Ethernet and MPLS are read in it, and in Geneve
abbrev pub is_type_in_gre : ℕ → Bool
is_type_in_gre type = type == 2048 || type == 34525 || type == 25944 || type == 34887 || type == 34888

-- ERSPAN, the frame of another place that a switch hands on (draft-foschiano-erspan-03): its type is 0x88be in types I and II, and
-- 0x22eb in type III
abbrev pub is_mirror : ℕ → Bool
is_mirror type = type == 35006 || type == 8939

-- the header of GRE has a number, by which 0x88be is of type II
abbrev pub has_number : List ℕ → Bool
has_number header = at header 0 / 16 % 2 == 1

-- How many bytes ERSPAN has before the frame: none in type I, 8 in type II, 12 in type III, and 8 more where the last bit of these
-- says so.
abbrev pub mirror_size : ℕ → Bool → List ℕ → ℕ
mirror_size type is_counted bytes = if type == 35006 then (if is_counted then 8 else 0) else (if at bytes 11 % 2 == 0 then 12 else 20)

-- The first four bits are the version, 1 in type II and 2 in type III. There five bits of the eleventh byte say of what link the frame
-- is: 0 is Ethernet, and no other is read.
abbrev pub is_mirror_read : ℕ → Bool → List ℕ → Bool
is_mirror_read type is_counted bytes =
    if type == 35006 then (not is_counted || (at bytes 0 / 16 == 1)) else ((at bytes 0 / 16 == 2) && (at bytes 10 / 4 % 32 == 0))

-- what stands in ERSPAN: a frame of Ethernet, 0x6558
pub record IsMirrored (type : ℕ) (is_counted : Bool) (bytes : List ℕ) (c : Linked) : Type 0 where
  pub mirror : is_mirror type ≡ true
  pub whole : mirror_size type is_counted bytes ≤ length bytes
  pub read : is_mirror_read type is_counted bytes ≡ true
  pub carries : CarriesTyped 25944 (drop (mirror_size type is_counted bytes) bytes) c

-- what stands behind the header of GRE
abbrev pub IsOfType : ℕ → Bool → List ℕ → Linked → Type 0
IsOfType type is_counted bytes c = ((is_mirror type ≡ false) × (is_type_in_gre type ≡ true) × CarriesTyped type bytes c) ⊎ IsMirrored type is_counted bytes c

-- what stands in GRE
pub record IsInGre (bytes : List ℕ) (c : Linked) : Type 0 where
  pub long : 4 ≤ length bytes
  pub flags : is_gre_read bytes ≡ true
  pub whole : gre_size bytes ≤ length bytes
  pub carries : IsOfType (pair bytes 2) (has_number bytes) (drop (gre_size bytes) bytes) c

-- what stands in a tunnel over UDP
pub record IsInUdp (bytes : List ℕ) (c : Linked) : Type 0 where
  pub long : 8 ≤ length bytes
  pub whole : over_udp_size bytes ≤ length (payload_of bytes)
  pub type : is_type_in_gre (over_udp_type bytes) ≡ true
  pub carries : CarriesTyped (over_udp_type bytes) (drop (over_udp_size bytes) (payload_of bytes)) c

-- what stands in a packet that carries this
abbrev pub IsInside : Reached → Linked → Type 0
IsInside r c =
    ((r.protocol ≢ gre) × (r.protocol ≢ udp) × (c.network ≡ network_in_ip r.protocol) × (c.content ≡ r.content))
    ⊎ ((r.protocol ≡ gre) × IsInGre r.content c)
    ⊎ ((r.protocol ≡ udp) × IsInUdp r.content c)

-- Over so many tunnels, one in another, to what is none. It went the same way.
abbrev pub LeadsInOver : ℕ → Linked → Linked → Type 0
LeadsInOver zero outer inner =
    ((network : Network) (r : Reached) → outer.network ≡ Some network → IsTunnel network outer.content r → ⊥) × (inner ≡ outer)
LeadsInOver (suc tunnels) outer inner =
    (network : Network) × (r : Reached) × (next : Linked) × (outer.network ≡ Some network) × IsTunnel network outer.content r
    × IsInside r next × (next.direction ≡ outer.direction) × LeadsInOver tunnels next inner

-- over any number of them
abbrev pub LeadsIn : Linked → Linked → Type 0
LeadsIn outer inner = (tunnels : ℕ) × LeadsInOver tunnels outer inner

-- the frame of this link carries it, over all tunnels
abbrev pub IsCarried : LinkType → List ℕ → Linked → Type 0
IsCarried link frame c = (outer : Linked) × SpellsLink link frame outer × LeadsIn outer c
