-- The headers that stand before what a packet carries, of IPv6 (RFC 8200, section 4) and of IPsec, and what is reached over them.
use Rattle.std.specs.Prelude.{◌≡◌, ◌≢◌, ◌⊎◌, ◌+◌, ◌*◌, ◌/◌, ◌%◌, ◌≤◌, ◌==◌, ◌||◌, ◌&&◌, nat_lt, not, ℕ, zero, suc, Bool, true, false, List, length, drop, Option, Some, None, if◌then◌else◌}
use Rattle.std.specs.Option.{is_some}
use Rattle.net_udp.specs.Frames.Number.{at, pair, four}
use Rattle.net_udp.specs.Frames.OverUdp.{is_over_udp, is_tunnel_port}
use Rattle.net_udp.specs.declared.frames.packet.Fragment.{Fragment}

-- with what a packet's content begins, which part it is, and its bytes
pub record Reached : Type 0 where
  pub protocol : ℕ
  pub fragment : Option Fragment
  pub content : List ℕ

-- IPv4 in IP (RFC 2003), IPv6 in IP (RFC 4213; RFC 2473) and GRE (RFC 2784)
abbrev pub is_tunnel : ℕ → Bool
is_tunnel n = n == 4 || n == 41 || n == 47

-- What they carry is not read: ESP, which enciphers it (RFC 4303), minimal encapsulation (RFC 2004), Ethernet in IP (RFC 3378; RFC
-- 8986), IPComp, which compresses it (RFC 3173), L2TP (RFC 3931) and MPLS in IP (RFC 4023).
abbrev pub is_hiding : ℕ → Bool
is_hiding n = n == 50 || n == 55 || n == 97 || n == 108 || n == 115 || n == 137 || n == 143

-- what may hold another packet; behind authentication one may stand too (RFC 4302, section 3.1.2)
abbrev pub is_wrapping : ℕ → Bool
is_wrapping n = is_tunnel n || is_hiding n || n == 51

-- hop-by-hop options, routing, destination options, authentication (RFC 4302), mobility (RFC 6275), host identity (RFC 7401)
-- and shim6 (RFC 5533), in any order and number; and what hides the rest
abbrev pub is_extension : ℕ → Bool
is_extension next = (next == 0 || next == 43 || next == 60 || next == 51 || next == 135 || next == 139 || next == 140) || is_hiding next

-- Of these, options, authentication and a routing header that leads to no other host are skipped: its fourth byte counts the
-- segments that are left, and where some are, the packet's target is a host on its way (RFC 8200, section 4.4). An
-- authentication header has 12 bytes at least, so that its second byte is not 0 (RFC 4302, section 2.2).
abbrev pub is_skippable : ℕ → List ℕ → Bool
is_skippable next bytes = (next == 0 || next == 60) || (((next == 51) && nat_lt 0 (at bytes 1)) || ((next == 43) && (at bytes 3 == 0)))

-- the number of a fragment header
abbrev pub fragment_header : ℕ
fragment_header = 44

-- A fragment header says with 13 bits where the fragment begins, in units of 8 bytes, and with the last bit that more
-- follow (RFC 8200, section 4.5).
abbrev pub fragment_of : List ℕ → Fragment
fragment_of header = record { id = four header 4; place = 8 * (pair header 2 / 8); more = pair header 2 % 2 == 1 }

-- one that begins at 0 and that no more follow is the whole packet (RFC 6946)
abbrev pub is_atomic : List ℕ → Bool
is_atomic header = (pair header 2 / 8 == 0) && (pair header 2 % 2 == 0)

-- A fragment that more follow is of whole units of 8 bytes, as its header is; any other one is discarded (RFC 8200, section 4.5).
abbrev pub is_of_units : List ℕ → Bool
is_of_units bytes = (pair bytes 2 % 2 == 0) || (length bytes % 8 == 0)

-- a fragment that is read: not one of what may hold another packet, whose hosts nobody knows before it is whole
abbrev pub is_read_part : List ℕ → Bool
is_read_part bytes = is_of_units bytes && not (is_wrapping (at bytes 0))

-- The length of a header: the second byte counts units of 8 bytes after the first 8; in authentication units of 4 after the first
-- 8 (RFC 4302, section 2.2). A fragment header has 8.
abbrev pub skipped_size : ℕ → List ℕ → ℕ
skipped_size next bytes = if next == 44 then 8 else (if next == 51 then 4 * (at bytes 1 + 2) else 8 * (at bytes 1 + 1))

-- the bytes begin with a header that is skipped
abbrev pub IsSkipped : ℕ → List ℕ → Type 0
IsSkipped next bytes = (8 ≤ length bytes) × (skipped_size next bytes ≤ length bytes) × ((is_skippable next bytes ≡ true) ⊎ ((next ≡ fragment_header) × (is_atomic bytes ≡ true)))

-- the bytes begin with no header that is skipped, nor with one that is cut, not read, or of a fragment that is not
abbrev pub Stops : ℕ → List ℕ → Reached → Type 0
Stops next bytes r =
    ((is_extension next ≡ false) × (next ≢ fragment_header) × (r ≡ record { protocol = next; fragment = None; content = bytes }))
    ⊎ ((next ≡ fragment_header) × (8 ≤ length bytes) × (is_atomic bytes ≡ false) × (is_read_part bytes ≡ true) × (r ≡ record { protocol = at bytes 0; fragment = Some (fragment_of bytes); content = drop 8 bytes }))

-- what is reached is a tunnel: of IP, or over UDP (17), whose datagram is whole
abbrev pub is_opened : Reached → Bool
is_opened r = is_tunnel r.protocol || ((r.protocol == 17) && not (is_some r.fragment) && is_over_udp r.content)

-- what is reached is a fragment or a tunnel, which holds more than is read here
abbrev pub is_hidden_in : Reached → Bool
is_hidden_in r = is_some r.fragment || is_opened r

-- the first of a packet's fragments
abbrev pub is_first : Option Fragment → Bool
is_first None = false
is_first (Some part) = part.place == 0

-- the first fragment of a datagram to the port of a tunnel over UDP
abbrev pub begins_over_udp : Reached → Bool
begins_over_udp r = (r.protocol == 17) && is_first r.fragment && (nat_lt 3 (length r.content) && is_tunnel_port (pair r.content 2))

-- a fragment that begins with a header over which another packet may stand
abbrev pub leads_on : Reached → Bool
leads_on r = (is_some r.fragment && is_extension r.protocol) || begins_over_udp r

-- over so many headers, each of which says with its first byte what follows it
abbrev pub StopsAfter : ℕ → ℕ → List ℕ → Reached → Type 0
StopsAfter zero next bytes r = Stops next bytes r
StopsAfter (suc headers) next bytes r = IsSkipped next bytes × StopsAfter headers (at bytes 0) (drop (skipped_size next bytes) bytes) r

-- what stands after all headers
abbrev pub ReachesOver : ℕ → List ℕ → Reached → Type 0
ReachesOver next bytes r = (headers : ℕ) × StopsAfter headers next bytes r
