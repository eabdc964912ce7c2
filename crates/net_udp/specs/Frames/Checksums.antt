-- When the checksums of a packet are right (RFC 1071; RFC 768; RFC 791, section 3.1; RFC 8200, section 8.1).
use Rattle.std.specs.Prelude.{◌+◌, ◌*◌, ◌%◌, ◌==◌, ◌&&◌, ◌||◌, nat_le, ℕ, Bool, true, List, [], ◌∷◌, length, take, if◌then◌else◌}
use Rattle.std.specs.Net.Addr.{ipv4_octets, ipv6_octets}
use Rattle.std.specs.declared.net.ip_addr.IpAddr.{IpAddr}
use Rattle.std.specs.declared.net.ip_addr.IpAddr.TheVariants.{V4, V6}
use Rattle.net_udp.specs.Frames.Number.{at, pair}
use Rattle.net_udp.specs.Frames.Ip.{Packet}
use Rattle.net_udp.specs.declared.frames.checksum.Checksum.{Checksum}
use Rattle.net_udp.specs.declared.frames.checksum.Checksum.TheVariants.{Absent, Partial, Right, Wrong}

-- the sum of words of 16 bits, the more significant byte first; a last byte alone has a 0 behind it
abbrev pub word_sum : List ℕ → ℕ
word_sum [] = 0
word_sum (a ∷ []) = 256 * a
word_sum (a ∷ b ∷ rest) = 256 * a + b + word_sum rest

-- The same in ones' complement: what is carried out of 16 bits is added again, until nothing is (RFC 1071, section 1). So it is
-- the remainder by 65,535, with all bits 1 in place of 0, unless all words are 0.
abbrev pub in_ones_complement : ℕ → ℕ
in_ones_complement sum = if sum == 0 then 0 else (if sum % 65535 == 0 then 65535 else sum % 65535)

-- words that a checksum is among add up to all bits 1
abbrev pub is_right : ℕ → Bool
is_right sum = in_ones_complement sum == 65535

-- the bytes of an address
abbrev pub address_bytes : IpAddr → List ℕ
address_bytes (V4 address) = ipv4_octets address
address_bytes (V6 address) = ipv6_octets address

-- the pseudo header, which is the addresses, the number of UDP, and the length (RFC 768; RFC 8200, section 8.1)
abbrev pub pseudo_sum : IpAddr → IpAddr → List ℕ → ℕ
pseudo_sum source target udp = word_sum (address_bytes source) + word_sum (address_bytes target) + 17 + length udp

-- with the datagram
abbrev pub udp_sum : IpAddr → IpAddr → List ℕ → ℕ
udp_sum source target udp = pseudo_sum source target udp + word_sum udp

-- The field has the sum of the pseudo header alone, in ones' complement and not complemented: so a sender leaves the rest to
-- its network card, which sums up the words from the UDP header on, this one among them, and puts the complement there.
abbrev pub is_left : IpAddr → IpAddr → List ℕ → Bool
is_left source target udp = pair udp 6 == in_ones_complement (pseudo_sum source target udp)

-- what a sum says, which is not 0: it is right, or else left to the network card, or wrong
abbrev pub verdict : Bool → Bool → Checksum
verdict is_right is_left = if is_right then Right else (if is_left then Partial else Wrong)

-- A checksum of 0 says that the sender made none (RFC 768), which is wrong over IPv6 (RFC 8200, section 8.1).
abbrev pub none_made : IpAddr → Checksum
none_made (V4 address) = Absent
none_made (V6 address) = Wrong

-- of a datagram, from its header on, as long as its length says
abbrev pub udp_checksum : IpAddr → IpAddr → List ℕ → Checksum
udp_checksum source target udp = if pair udp 6 == 0 then none_made source else verdict (is_right (udp_sum source target udp)) (is_left source target udp)

-- the header of IPv4 has a checksum of its own (RFC 791, section 3.1), IPv6 has none
abbrev pub is_headed_right : IpAddr → List ℕ → Bool
is_headed_right (V4 address) packet = is_right (word_sum (take (4 * (at packet 0 % 16)) packet))
is_headed_right (V6 address) packet = true

-- the checksum of the header of IPv4 is 0, as a sender leaves it to its network card
abbrev pub is_unsummed : List ℕ → Bool
is_unsummed packet = nat_le 12 (length packet) && (pair packet 10 == 0)

-- where that one is not right, it is wrong, unless it or that of UDP was left
abbrev pub headed_wrong : Packet → List ℕ → Checksum
headed_wrong p udp = if is_unsummed p.packet || is_left p.source p.target udp then Partial else Wrong

-- what the checksums of the packet and of the datagram in it say
abbrev pub checksum_of : Packet → List ℕ → Checksum
checksum_of p udp = if is_headed_right p.source p.packet then udp_checksum p.source p.target udp else headed_wrong p udp
