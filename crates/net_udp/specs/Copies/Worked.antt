-- Packets for worked examples: an acknowledgement of TFTP in IPv4, as scapy 2.5.0 makes it.
use Rattle.std.specs.Prelude.{ℕ, [], ◌∷◌, Option}
use Rattle.net_udp.specs.Copies.Copies.{Packet}
use Rattle.net_udp.specs.declared.copies.interface.Interface.{Interface}

-- an interface of the first section, by its number
abbrev pub interface : ℕ → Interface
interface number = record { section = 1; number = number; index = 0 }

-- with that identification, below 256, recorded there at that time; the header's checksum is that of identification 7
abbrev pub acknowledgement : ℕ → Interface → Option ℕ → Packet
acknowledgement id interface time = record {
  interface = interface;
  time = time;
  bytes = 69 ∷ 0 ∷ 0 ∷ 32 ∷ 0 ∷ id ∷ 0 ∷ 0 ∷ 64 ∷ 17 ∷ 246 ∷ 189 ∷ 192 ∷ 0 ∷ 2 ∷ 7 ∷ 192 ∷ 0 ∷ 2 ∷ 1 ∷ 156 ∷ 64 ∷ 0 ∷ 69 ∷ 0 ∷ 12 ∷ 223 ∷ 66 ∷ 0 ∷ 4 ∷ 0 ∷ 1 ∷ [];
}
