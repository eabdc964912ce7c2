-- Bytes and endpoints as plain text.
use Rattle.std.specs.Prelude.{ℕ, Bool, ◌&&◌, ◌==◌, ◌/◌, ◌%◌, ◌++◌, ◌∷◌, not, List, [], codes, decimal, flat_map, if◌then◌else◌}
use Rattle.std.specs.Char.{digit_char, is_ascii_graphic}
use Rattle.std.specs.Net.Addr.{segments_of}
use Rattle.std.specs.Net.Text.{ipv4_text, ipv6_text}
use Rattle.audit_flows.specs.{Address, Endpoint, V4, V6}

-- a sign of ASCII that is seen, but for the quote and the backslash
abbrev pub is_plain : ℕ → Bool
is_plain byte = is_ascii_graphic byte && (not (byte == 34) && not (byte == 92))

-- the byte itself, or `\x` and its two hexadecimal digits
abbrev pub plain_byte : ℕ → List ℕ
plain_byte byte = if is_plain byte then byte ∷ [] else codes "\\x" ++ digit_char (byte / 16) ∷ digit_char (byte % 16) ∷ []

abbrev pub plain : List ℕ → List ℕ
plain bytes = flat_map plain_byte bytes

-- four numbers with dots between them (RFC 1123, section 2.1), or groups of an IPv6 address (RFC 5952)
abbrev pub host_text : Address → List ℕ
host_text (V4 bytes) = ipv4_text bytes
host_text (V6 bytes) = ipv6_text (segments_of bytes)

-- the same before a port: an IPv6 address in brackets (RFC 3986, section 3.2.2)
abbrev pub host_before_port : Address → List ℕ
host_before_port (V4 bytes) = host_text (V4 bytes)
host_before_port (V6 bytes) = codes "[" ++ host_text (V6 bytes) ++ codes "]"

abbrev pub endpoint_text : Endpoint → List ℕ
endpoint_text end = host_before_port end.address ++ codes ":" ++ decimal end.port
