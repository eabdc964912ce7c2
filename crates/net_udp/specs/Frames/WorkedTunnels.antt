-- Frames of tunnels for worked examples, by Python's struct, with the checksums of RFC 1071: tshark 4.0.17 reads the same ports, hosts and
-- payload in each that is read. They carry the acknowledgement of `Worked`, in the packet with identification 7; the tunnels go from
-- 192.0.2.53 to 192.0.2.54.
use Rattle.std.specs.Prelude.{ℕ, List, [], ◌∷◌, ◌++◌, take, drop, Some}
use Rattle.net_udp.specs.Frames.Ip.{Packet}
use Rattle.net_udp.specs.Frames.Worked.{host, ipv4_bytes, ipv4_packet, two_tags}
use Rattle.net_udp.specs.declared.frames.packet.Direction.TheVariants.{Unknown}

-- that packet in a frame of Ethernet
abbrev pub inner_frame : List ℕ
inner_frame = 2 ∷ 0 ∷ 0 ∷ 0 ∷ 0 ∷ 2 ∷ 2 ∷ 0 ∷ 0 ∷ 0 ∷ 0 ∷ 1 ∷ 8 ∷ 0 ∷ ipv4_bytes

-- that frame in ERSPAN of type I, which is GRE without a number
abbrev pub mirrored_one : List ℕ
mirrored_one = 69 ∷ 0 ∷ 0 ∷ 70 ∷ 0 ∷ 8 ∷ 0 ∷ 0 ∷ 64 ∷ 47 ∷ 246 ∷ 21 ∷ 192 ∷ 0 ∷ 2 ∷ 53 ∷ 192 ∷ 0 ∷ 2 ∷ 54 ∷ 0 ∷ 0 ∷ 136 ∷ 190 ∷ inner_frame

-- of type II, number 9, with version 1, VLAN 5, session 100 and index 7
abbrev pub mirrored_two : List ℕ
mirrored_two = 69 ∷ 0 ∷ 0 ∷ 82 ∷ 0 ∷ 8 ∷ 0 ∷ 0 ∷ 64 ∷ 47 ∷ 246 ∷ 9 ∷ 192 ∷ 0 ∷ 2 ∷ 53 ∷ 192 ∷ 0 ∷ 2 ∷ 54 ∷ 16 ∷ 0 ∷ 136 ∷ 190 ∷ 0 ∷ 0 ∷ 0 ∷ 9 ∷ 16 ∷ 5 ∷ 0 ∷ 100 ∷ 0 ∷ 0 ∷ 0 ∷ 7 ∷ inner_frame

-- of type III, with version 2
abbrev pub mirrored_three : List ℕ
mirrored_three = 69 ∷ 0 ∷ 0 ∷ 86 ∷ 0 ∷ 8 ∷ 0 ∷ 0 ∷ 64 ∷ 47 ∷ 246 ∷ 5 ∷ 192 ∷ 0 ∷ 2 ∷ 53 ∷ 192 ∷ 0 ∷ 2 ∷ 54 ∷ 16 ∷ 0 ∷ 34 ∷ 235 ∷ 0 ∷ 0 ∷ 0 ∷ 9 ∷ 32 ∷ 5 ∷ 0 ∷ 100 ∷ 0 ∷ 0 ∷ 0 ∷ 1 ∷ 0 ∷ 0 ∷ 0 ∷ 0 ∷ inner_frame

-- the same with 8 bytes more, as the last bit of the first 12 says
abbrev pub mirrored_longer : List ℕ
mirrored_longer = 69 ∷ 0 ∷ 0 ∷ 94 ∷ 0 ∷ 8 ∷ 0 ∷ 0 ∷ 64 ∷ 47 ∷ 245 ∷ 253 ∷ 192 ∷ 0 ∷ 2 ∷ 53 ∷ 192 ∷ 0 ∷ 2 ∷ 54 ∷ 16 ∷ 0 ∷ 34 ∷ 235 ∷ 0 ∷ 0 ∷ 0 ∷ 9 ∷ 32 ∷ 5 ∷ 0 ∷ 100 ∷ 0 ∷ 0 ∷ 0 ∷ 1 ∷ 0 ∷ 0 ∷ 0 ∷ 1 ∷ 12 ∷ 0 ∷ 0 ∷ 0 ∷ 0 ∷ 0 ∷ 0 ∷ 2 ∷ inner_frame

-- of type III, and a packet of IP in it (2) where a frame may stand
abbrev pub mirrored_packet : List ℕ
mirrored_packet = take 38 mirrored_three ++ 8 ∷ drop 39 mirrored_three

-- in VXLAN, to network 7
abbrev pub in_vxlan : List ℕ
in_vxlan = 69 ∷ 0 ∷ 0 ∷ 82 ∷ 0 ∷ 8 ∷ 0 ∷ 0 ∷ 64 ∷ 17 ∷ 246 ∷ 39 ∷ 192 ∷ 0 ∷ 2 ∷ 53 ∷ 192 ∷ 0 ∷ 2 ∷ 54 ∷ 195 ∷ 80 ∷ 18 ∷ 181 ∷ 0 ∷ 62 ∷ 0 ∷ 0 ∷ 8 ∷ 0 ∷ 0 ∷ 0 ∷ 0 ∷ 0 ∷ 7 ∷ 0 ∷ inner_frame

-- the same with a bit that is reserved (RFC 7348, section 5)
abbrev pub in_vxlan_reserved : List ℕ
in_vxlan_reserved = take 29 in_vxlan ++ 1 ∷ drop 30 in_vxlan

-- a frame of ARP (0x0806) in VXLAN
abbrev pub arp_in_vxlan : List ℕ
arp_in_vxlan = take 48 in_vxlan ++ 8 ∷ 6 ∷ []

-- the first fragment of that datagram in VXLAN, of 24 bytes
abbrev pub part_of_vxlan : List ℕ
part_of_vxlan = 69 ∷ 0 ∷ 0 ∷ 44 ∷ 0 ∷ 8 ∷ 32 ∷ 0 ∷ 64 ∷ 17 ∷ 214 ∷ 77 ∷ 192 ∷ 0 ∷ 2 ∷ 53 ∷ 192 ∷ 0 ∷ 2 ∷ 54 ∷ take 24 (drop 20 in_vxlan)

-- the packet in Geneve, to network 7
abbrev pub in_geneve : List ℕ
in_geneve = 69 ∷ 0 ∷ 0 ∷ 68 ∷ 0 ∷ 8 ∷ 0 ∷ 0 ∷ 64 ∷ 17 ∷ 246 ∷ 53 ∷ 192 ∷ 0 ∷ 2 ∷ 53 ∷ 192 ∷ 0 ∷ 2 ∷ 54 ∷ 195 ∷ 80 ∷ 23 ∷ 193 ∷ 0 ∷ 48 ∷ 0 ∷ 0 ∷ 0 ∷ 0 ∷ 8 ∷ 0 ∷ 0 ∷ 0 ∷ 7 ∷ 0 ∷ ipv4_bytes

-- the same with the type of ARP
abbrev pub arp_in_geneve : List ℕ
arp_in_geneve = take 30 in_geneve ++ 8 ∷ 6 ∷ drop 32 in_geneve

-- the frame in Geneve with an option, which is critical
abbrev pub in_geneve_with_options : List ℕ
in_geneve_with_options = 69 ∷ 0 ∷ 0 ∷ 90 ∷ 0 ∷ 8 ∷ 0 ∷ 0 ∷ 64 ∷ 17 ∷ 246 ∷ 31 ∷ 192 ∷ 0 ∷ 2 ∷ 53 ∷ 192 ∷ 0 ∷ 2 ∷ 54 ∷ 195 ∷ 80 ∷ 23 ∷ 193 ∷ 0 ∷ 70 ∷ 0 ∷ 0 ∷ 2 ∷ 64 ∷ 101 ∷ 88 ∷ 0 ∷ 0 ∷ 7 ∷ 0 ∷ 1 ∷ 2 ∷ 128 ∷ 1 ∷ 170 ∷ 187 ∷ 204 ∷ 221 ∷ inner_frame

-- the acknowledgement from port 69 to port 4789, as of a client whose port is that one
abbrev pub ack_to_vxlan : List ℕ
ack_to_vxlan = 69 ∷ 0 ∷ 0 ∷ 32 ∷ 0 ∷ 7 ∷ 0 ∷ 0 ∷ 64 ∷ 17 ∷ 246 ∷ 189 ∷ 192 ∷ 0 ∷ 2 ∷ 7 ∷ 192 ∷ 0 ∷ 2 ∷ 1 ∷ 0 ∷ 69 ∷ 18 ∷ 181 ∷ 0 ∷ 12 ∷ 104 ∷ 206 ∷ 0 ∷ 4 ∷ 0 ∷ 1 ∷ []

-- the same to port 6081
abbrev pub ack_to_geneve : List ℕ
ack_to_geneve = 69 ∷ 0 ∷ 0 ∷ 32 ∷ 0 ∷ 7 ∷ 0 ∷ 0 ∷ 64 ∷ 17 ∷ 246 ∷ 189 ∷ 192 ∷ 0 ∷ 2 ∷ 7 ∷ 192 ∷ 0 ∷ 2 ∷ 1 ∷ 0 ∷ 69 ∷ 23 ∷ 193 ∷ 0 ∷ 12 ∷ 99 ∷ 194 ∷ 0 ∷ 4 ∷ 0 ∷ 1 ∷ []

-- the head of a frame with the tag of HSR: path 0, 38 bytes, number 9
abbrev pub ring_head : List ℕ
ring_head = take 12 two_tags ++ 137 ∷ 47 ∷ 0 ∷ 38 ∷ 0 ∷ 9 ∷ 8 ∷ 0 ∷ []

-- with that of FRER, number 9
abbrev pub stream_head : List ℕ
stream_head = take 12 two_tags ++ 241 ∷ 193 ∷ 0 ∷ 0 ∷ 0 ∷ 9 ∷ 8 ∷ 0 ∷ []

-- the head of one of MACsec, number 9, with a channel, and neither enciphered nor changed
abbrev pub secured_head : List ℕ
secured_head = take 12 two_tags ++ 136 ∷ 229 ∷ 32 ∷ 0 ∷ 0 ∷ 0 ∷ 0 ∷ 9 ∷ 2 ∷ 0 ∷ 0 ∷ 0 ∷ 0 ∷ 1 ∷ 0 ∷ 1 ∷ []

-- with the tag of a Marvell switch, as Linux has it
abbrev pub switched_head : List ℕ
switched_head = take 12 two_tags ++ 218 ∷ 218 ∷ 0 ∷ 0 ∷ 192 ∷ 0 ∷ 0 ∷ 1 ∷ 8 ∷ 0 ∷ []

-- the packet with the reserved bit, which is none of a tunnel
abbrev pub reserved_packet : Packet
reserved_packet = record (ipv4_packet Unknown in_vxlan_reserved) {
  source = host 53;
  target = host 54;
  identification = Some 8;
  content = drop 20 in_vxlan_reserved;
}
