-- What a host is called in a capture text: its address in text, an IPv4 address in dotted decimal, an IPv6 address as
-- RFC 5952 has it.
use Rattle.std.specs.Prelude.{◌≡◌, ℕ, ◌^◌, ◌<◌, List, length, slice_index}
use Rattle.std.specs.declared.net.ip_addr.IpAddr.{IpAddr}
use Rattle.std.specs.declared.net.ip_addr.IpAddr.TheVariants as Ip
use Rattle.std.specs.Net.Addr.{ipv4_octets, ipv6_octets, segments_of}
use Rattle.std.specs.Net.Text.{ipv4_text, ipv6_text}
use Rattle.audit_flows.specs.{Address, V4, V6}

-- numbers of 8 bits
abbrev pub AreBytes : List ℕ → Type 0
AreBytes bytes = (k : ℕ) → slice_index bytes k < 2 ^ 8

-- as many bytes as the version has (RFC 791, section 3.1; RFC 8200, section 3)
abbrev pub IsAddress : Address → Type 0
IsAddress (V4 bytes) = (length bytes ≡ 4) × AreBytes bytes
IsAddress (V6 bytes) = (length bytes ≡ 16) × AreBytes bytes

-- the address, by its version and its bytes in network order
abbrev pub address_of : IpAddr → Address
address_of (Ip.V4 a) = V4 (ipv4_octets a)
address_of (Ip.V6 a) = V6 (ipv6_octets a)

-- the host's name
abbrev pub host_name : Address → List ℕ
host_name (V4 bytes) = ipv4_text bytes
host_name (V6 bytes) = ipv6_text (segments_of bytes)
