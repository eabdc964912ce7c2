-- What did not arrive, for worked examples: 192.0.2.7 or 2001:db8::7 sends the acknowledgement of `Frames.Worked`, and nobody has the
-- port to which it goes, as Linux 6.18 tells it and tcpdump 4.99.3 records it.
use Rattle.std.specs.Prelude.{ℕ, List, [], ◌∷◌, ◌++◌, take, drop}
use Rattle.net_udp.specs.Frames.Worked.{host, host_of_ipv6}
use Rattle.net_udp.specs.declared.frames.unreachable.Unreachable.{Unreachable}

abbrev pub unreachable_bytes : List ℕ
unreachable_bytes = 69 ∷ 192 ∷ 0 ∷ 60 ∷ 124 ∷ 77 ∷ 0 ∷ 0 ∷ 64 ∷ 1 ∷ 121 ∷ 171 ∷ 192 ∷ 0 ∷ 2 ∷ 1 ∷ 192 ∷ 0 ∷ 2 ∷ 7 ∷ 3 ∷ 3 ∷ 220 ∷ 63 ∷ 0 ∷ 0 ∷ 0 ∷ 0 ∷ 69 ∷ 0 ∷ 0 ∷ 32 ∷ 94 ∷ 209 ∷ 64 ∷ 0 ∷ 64 ∷ 17 ∷ 87 ∷ 243 ∷ 192 ∷ 0 ∷ 2 ∷ 7 ∷ 192 ∷ 0 ∷ 2 ∷ 1 ∷ 156 ∷ 64 ∷ 0 ∷ 69 ∷ 0 ∷ 12 ∷ 132 ∷ 38 ∷ 0 ∷ 4 ∷ 0 ∷ 1 ∷ []

abbrev pub unreachable_ipv6_bytes : List ℕ
unreachable_ipv6_bytes = 96 ∷ 2 ∷ 230 ∷ 88 ∷ 0 ∷ 60 ∷ 58 ∷ 64 ∷ 32 ∷ 1 ∷ 13 ∷ 184 ∷ 0 ∷ 0 ∷ 0 ∷ 0 ∷ 0 ∷ 0 ∷ 0 ∷ 0 ∷ 0 ∷ 0 ∷ 0 ∷ 1 ∷ 32 ∷ 1 ∷ 13 ∷ 184 ∷ 0 ∷ 0 ∷ 0 ∷ 0 ∷ 0 ∷ 0 ∷ 0 ∷ 0 ∷ 0 ∷ 0 ∷ 0 ∷ 7 ∷ 1 ∷ 4 ∷ 29 ∷ 164 ∷ 0 ∷ 0 ∷ 0 ∷ 0 ∷ 96 ∷ 2 ∷ 192 ∷ 112 ∷ 0 ∷ 12 ∷ 17 ∷ 64 ∷ 32 ∷ 1 ∷ 13 ∷ 184 ∷ 0 ∷ 0 ∷ 0 ∷ 0 ∷ 0 ∷ 0 ∷ 0 ∷ 0 ∷ 0 ∷ 0 ∷ 0 ∷ 7 ∷ 32 ∷ 1 ∷ 13 ∷ 184 ∷ 0 ∷ 0 ∷ 0 ∷ 0 ∷ 0 ∷ 0 ∷ 0 ∷ 0 ∷ 0 ∷ 0 ∷ 0 ∷ 1 ∷ 156 ∷ 64 ∷ 0 ∷ 69 ∷ 0 ∷ 12 ∷ 91 ∷ 151 ∷ 0 ∷ 4 ∷ 0 ∷ 1 ∷ []

-- the message with another type: an answer to an echo (RFC 792)
abbrev pub echo_bytes : List ℕ
echo_bytes = take 20 unreachable_bytes ++ 0 ∷ drop 21 unreachable_bytes

-- its first 51 bytes, to the first port that it quotes and one byte of the other
abbrev pub unreachable_cut : List ℕ
unreachable_cut = take 51 unreachable_bytes

abbrev pub no_port : Unreachable
no_port = record { from = host 1; code = 3; quoted = record { source = host 7; source_port = 40000; target = host 1; target_port = 69 } }

abbrev pub no_port_ipv6 : Unreachable
no_port_ipv6 = record {
  from = host_of_ipv6 1;
  code = 4;
  quoted = record { source = host_of_ipv6 7; source_port = 40000; target = host_of_ipv6 1; target_port = 69 };
}
