-- Tunnels over UDP: VXLAN (RFC 7348) and Geneve (RFC 8926). A datagram is one of a tunnel by the port to which it goes and by a
-- header in which each flag and each reserved bit is as its RFC has it sent. What stands behind the header is not asked: a frame
-- that is not read there may be anything. Where the bytes end in the header, those that are there decide.
use Rattle.std.specs.Prelude.{◌+◌, ◌-◌, ◌*◌, ◌==◌, ◌&&◌, ◌||◌, nat_le, nat_lt, ℕ, Bool, List, length, take, drop, if◌then◌else◌}
use Rattle.net_udp.specs.Frames.Number.{at, pair}
use Rattle.net_udp.specs.Frames.Tag.{is_said}

-- 4789 is the port of VXLAN (RFC 7348, section 5), 6081 that of Geneve (RFC 8926, section 3.3)
abbrev pub is_tunnel_port : ℕ → Bool
is_tunnel_port port = port == 4789 || port == 6081

-- what is there of a datagram's payload, and no more than its length says (RFC 768)
abbrev pub payload_of : List ℕ → List ℕ
payload_of bytes = take (pair bytes 4 - 8) (drop 8 bytes)

-- the flag that says a number is set, no other is, and what is reserved is 0 (RFC 7348, section 5)
abbrev pub is_vxlan : List ℕ → Bool
is_vxlan payload = (is_said payload 0 8 && is_said payload 1 0) && (is_said payload 2 0 && is_said payload 3 0 && is_said payload 7 0)

-- The version is 0, so that the first byte is the length of the options alone. It is no message of control, options may be
-- critical, and what is reserved is 0 (RFC 8926, section 3.4).
abbrev pub is_geneve : List ℕ → Bool
is_geneve payload = nat_lt (at payload 0) 64 && (is_said payload 1 0 || is_said payload 1 64) && is_said payload 7 0

-- the datagram, from its header on, is one of a tunnel
abbrev pub is_over_udp : List ℕ → Bool
is_over_udp bytes = nat_le 8 (length bytes) && (((pair bytes 2 == 4789) && is_vxlan (payload_of bytes)) || ((pair bytes 2 == 6081) && is_geneve (payload_of bytes)))

-- the type of what it carries: VXLAN a frame of Ethernet, 0x6558, Geneve what its third and fourth byte name
abbrev pub over_udp_type : List ℕ → ℕ
over_udp_type bytes = if pair bytes 2 == 4789 then 25944 else pair (payload_of bytes) 2

-- how many bytes the tunnel's header has: 8, and in Geneve the options, whose length the first byte counts in words of 4 bytes
abbrev pub over_udp_size : List ℕ → ℕ
over_udp_size bytes = if pair bytes 2 == 4789 then 8 else 8 + 4 * at (payload_of bytes) 0
