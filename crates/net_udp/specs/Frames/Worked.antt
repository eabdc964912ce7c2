-- Frames for worked examples, as scapy 2.5.0 makes them: 192.0.2.7 or 2001:db8::7 sends from port 40000 to port 69 of
-- 192.0.2.1 or 2001:db8::1 an acknowledgement of TFTP.
use Rattle.std.specs.Prelude.{ℕ, List, [], ◌∷◌, ◌++◌, take, drop, Some, None, true}
use Rattle.std.specs.declared.net.ip_addr.IpAddr.{IpAddr}
use Rattle.std.specs.declared.net.ip_addr.IpAddr.TheVariants.{V4, V6}
use Rattle.net_udp.specs.Frames.Ip.{Packet}
use Rattle.net_udp.specs.Frames.UdpDatagrams.{Udp}
use Rattle.net_udp.specs.declared.frames.packet.Direction.{Direction}
use Rattle.net_udp.specs.declared.frames.packet.Direction.TheVariants.{Unknown}

-- a host of 192.0.2.0/24, by its last byte
abbrev pub host : ℕ → IpAddr
host last = V4 (record { octets = 192 ∷ 0 ∷ 2 ∷ last ∷ [] })

-- a host of 2001:db8::/32, by its last group
abbrev pub host_of_ipv6 : ℕ → IpAddr
host_of_ipv6 last = V6 (record { segments = 8193 ∷ 3512 ∷ 0 ∷ 0 ∷ 0 ∷ 0 ∷ 0 ∷ last ∷ [] })

-- a UDP header, and the acknowledgement
abbrev pub udp_bytes : List ℕ
udp_bytes = 156 ∷ 64 ∷ 0 ∷ 69 ∷ 0 ∷ 12 ∷ 223 ∷ 66 ∷ 0 ∷ 4 ∷ 0 ∷ 1 ∷ []

-- the same in IPv6
abbrev pub udp_bytes_of_ipv6 : List ℕ
udp_bytes_of_ipv6 = 156 ∷ 64 ∷ 0 ∷ 69 ∷ 0 ∷ 12 ∷ 7 ∷ 210 ∷ 0 ∷ 4 ∷ 0 ∷ 1 ∷ []

-- the same in IPv4, of three bytes; the checksum by Python's struct and RFC 1071, section 4.1
abbrev pub udp_of_three : List ℕ
udp_of_three = 156 ∷ 64 ∷ 0 ∷ 69 ∷ 0 ∷ 11 ∷ 214 ∷ 69 ∷ 0 ∷ 4 ∷ 9 ∷ []

-- the acknowledgement as Linux 6.18 gives it to a recorder at the host that sends it, before a network card has made the
-- checksum: a raw socket at an interface with these addresses got it so
abbrev pub udp_left : List ℕ
udp_left = 156 ∷ 64 ∷ 0 ∷ 69 ∷ 0 ∷ 12 ∷ 132 ∷ 38 ∷ 0 ∷ 4 ∷ 0 ∷ 1 ∷ []

-- the same in IPv6
abbrev pub udp_left_of_ipv6 : List ℕ
udp_left_of_ipv6 = 156 ∷ 64 ∷ 0 ∷ 69 ∷ 0 ∷ 12 ∷ 91 ∷ 151 ∷ 0 ∷ 4 ∷ 0 ∷ 1 ∷ []

-- an IPv4 packet with identification 7
abbrev pub ipv4_bytes : List ℕ
ipv4_bytes = 69 ∷ 0 ∷ 0 ∷ 32 ∷ 0 ∷ 7 ∷ 0 ∷ 0 ∷ 64 ∷ 17 ∷ 246 ∷ 189 ∷ 192 ∷ 0 ∷ 2 ∷ 7 ∷ 192 ∷ 0 ∷ 2 ∷ 1 ∷ 156 ∷ 64 ∷ 0 ∷ 69 ∷ 0 ∷ 12 ∷ 223 ∷ 66 ∷ 0 ∷ 4 ∷ 0 ∷ 1 ∷ []

-- the same with an option, Router Alert (RFC 2113)
abbrev pub ipv4_with_options : List ℕ
ipv4_with_options = 70 ∷ 0 ∷ 0 ∷ 36 ∷ 0 ∷ 7 ∷ 0 ∷ 0 ∷ 64 ∷ 17 ∷ 97 ∷ 181 ∷ 192 ∷ 0 ∷ 2 ∷ 7 ∷ 192 ∷ 0 ∷ 2 ∷ 1 ∷ 148 ∷ 4 ∷ 0 ∷ 0 ∷ 156 ∷ 64 ∷ 0 ∷ 69 ∷ 0 ∷ 12 ∷ 223 ∷ 66 ∷ 0 ∷ 4 ∷ 0 ∷ 1 ∷ []

-- a fragment, more following, of the packet with identification 7, at place 185 in units of 8 bytes
abbrev pub ipv4_fragment : List ℕ
ipv4_fragment = 69 ∷ 0 ∷ 0 ∷ 28 ∷ 0 ∷ 7 ∷ 32 ∷ 185 ∷ 64 ∷ 17 ∷ 214 ∷ 8 ∷ 192 ∷ 0 ∷ 2 ∷ 7 ∷ 192 ∷ 0 ∷ 2 ∷ 1 ∷ 104 ∷ 101 ∷ 108 ∷ 108 ∷ 111 ∷ 49 ∷ 50 ∷ 51 ∷ []

-- an IPv6 packet with hop-by-hop and destination options
abbrev pub ipv6_with_extensions : List ℕ
ipv6_with_extensions = 96 ∷ 0 ∷ 0 ∷ 0 ∷ 0 ∷ 28 ∷ 0 ∷ 64 ∷ 32 ∷ 1 ∷ 13 ∷ 184 ∷ 0 ∷ 0 ∷ 0 ∷ 0 ∷ 0 ∷ 0 ∷ 0 ∷ 0 ∷ 0 ∷ 0 ∷ 0 ∷ 7 ∷ 32 ∷ 1 ∷ 13 ∷ 184 ∷ 0 ∷ 0 ∷ 0 ∷ 0 ∷ 0 ∷ 0 ∷ 0 ∷ 0 ∷ 0 ∷ 0 ∷ 0 ∷ 1 ∷ 60 ∷ 0 ∷ 1 ∷ 4 ∷ 0 ∷ 0 ∷ 0 ∷ 0 ∷ 17 ∷ 0 ∷ 1 ∷ 4 ∷ 0 ∷ 0 ∷ 0 ∷ 0 ∷ 156 ∷ 64 ∷ 0 ∷ 69 ∷ 0 ∷ 12 ∷ 7 ∷ 210 ∷ 0 ∷ 4 ∷ 0 ∷ 1 ∷ []

-- a fragment of IPv6, more following, at place 181 in units of 8 bytes
abbrev pub ipv6_fragment : List ℕ
ipv6_fragment = 96 ∷ 0 ∷ 0 ∷ 0 ∷ 0 ∷ 16 ∷ 44 ∷ 64 ∷ 32 ∷ 1 ∷ 13 ∷ 184 ∷ 0 ∷ 0 ∷ 0 ∷ 0 ∷ 0 ∷ 0 ∷ 0 ∷ 0 ∷ 0 ∷ 0 ∷ 0 ∷ 7 ∷ 32 ∷ 1 ∷ 13 ∷ 184 ∷ 0 ∷ 0 ∷ 0 ∷ 0 ∷ 0 ∷ 0 ∷ 0 ∷ 0 ∷ 0 ∷ 0 ∷ 0 ∷ 1 ∷ 17 ∷ 0 ∷ 5 ∷ 169 ∷ 1 ∷ 2 ∷ 3 ∷ 4 ∷ 104 ∷ 101 ∷ 108 ∷ 108 ∷ 111 ∷ 49 ∷ 50 ∷ 51 ∷ []

-- the same, whose fragment header names ICMP
abbrev pub ipv6_fragment_of_icmp : List ℕ
ipv6_fragment_of_icmp = take 40 ipv6_fragment ++ 58 ∷ drop 41 ipv6_fragment

-- the fragment of IPv6 without its last byte, of seven bytes
abbrev pub ipv6_of_no_units : List ℕ
ipv6_of_no_units = take 5 ipv6_fragment ++ 15 ∷ take 49 (drop 6 ipv6_fragment)

-- The acknowledgement of IPv6 behind a routing header of type 2 (RFC 6275, section 6.4), with so many segments left, of which
-- 2001:db8::9 is the only one.
abbrev pub ipv6_routed : ℕ → List ℕ
ipv6_routed left = take 4 ipv6_fragment ++ 0 ∷ 36 ∷ 43 ∷ 64 ∷ take 32 (drop 8 ipv6_fragment) ++ 17 ∷ 2 ∷ 2 ∷ left ∷ 0 ∷ 0 ∷ 0 ∷ 0 ∷ 32 ∷ 1 ∷ 13 ∷ 184 ∷ 0 ∷ 0 ∷ 0 ∷ 0 ∷ 0 ∷ 0 ∷ 0 ∷ 0 ∷ 0 ∷ 0 ∷ 0 ∷ 9 ∷ udp_bytes_of_ipv6

-- the same behind an authentication header (RFC 4302, section 2)
abbrev pub ipv6_authenticated : List ℕ
ipv6_authenticated = take 4 ipv6_fragment ++ 0 ∷ 36 ∷ 51 ∷ 64 ∷ take 32 (drop 8 ipv6_fragment) ++ 17 ∷ 4 ∷ 0 ∷ 0 ∷ 0 ∷ 0 ∷ 1 ∷ 0 ∷ 0 ∷ 0 ∷ 0 ∷ 1 ∷ 1 ∷ 2 ∷ 3 ∷ 4 ∷ 5 ∷ 6 ∷ 7 ∷ 8 ∷ 9 ∷ 10 ∷ 11 ∷ 12 ∷ udp_bytes_of_ipv6

-- the head of an Ethernet frame with two tags (IEEE 802.1ad and 802.1Q)
abbrev pub two_tags : List ℕ
two_tags = 2 ∷ 0 ∷ 0 ∷ 0 ∷ 0 ∷ 2 ∷ 2 ∷ 0 ∷ 0 ∷ 0 ∷ 0 ∷ 1 ∷ 136 ∷ 168 ∷ 0 ∷ 9 ∷ 129 ∷ 0 ∷ 0 ∷ 5 ∷ 8 ∷ 0 ∷ []

-- the same, with 0x9100 in place of the type of 802.1ad
abbrev pub two_old_tags : List ℕ
two_old_tags = take 12 two_tags ++ 145 ∷ 0 ∷ drop 14 two_tags

-- ---- by Python's struct, with the checksums of RFC 1071: tshark reads the same ports, hosts and payload in all of these

-- the head of an Ethernet frame with LLC and SNAP (RFC 1042), of 40 bytes
abbrev pub snap_head : List ℕ
snap_head = take 12 two_tags ++ 0 ∷ 40 ∷ 170 ∷ 170 ∷ 3 ∷ 0 ∷ 0 ∷ 0 ∷ 8 ∷ 0 ∷ []

-- that of one with PPPoE in session 7 (RFC 2516), and this protocol of PPP
abbrev pub session_head : ℕ → List ℕ
session_head protocol = take 12 two_tags ++ 136 ∷ 100 ∷ 17 ∷ 0 ∷ 0 ∷ 7 ∷ 0 ∷ 34 ∷ 0 ∷ protocol ∷ []

-- that of one with two labels of MPLS, 16 and 17 (RFC 3032)
abbrev pub labels_head : List ℕ
labels_head = take 12 two_tags ++ 136 ∷ 71 ∷ 0 ∷ 1 ∷ 0 ∷ 64 ∷ 0 ∷ 1 ∷ 17 ∷ 64 ∷ []

-- the packet with identification 7 behind an authentication header (RFC 4302)
abbrev pub ipv4_authenticated : List ℕ
ipv4_authenticated = 69 ∷ 0 ∷ 0 ∷ 56 ∷ 0 ∷ 7 ∷ 0 ∷ 0 ∷ 64 ∷ 51 ∷ 246 ∷ 131 ∷ 192 ∷ 0 ∷ 2 ∷ 7 ∷ 192 ∷ 0 ∷ 2 ∷ 1 ∷ 17 ∷ 4 ∷ 0 ∷ 0 ∷ 0 ∷ 0 ∷ 1 ∷ 0 ∷ 0 ∷ 0 ∷ 0 ∷ 1 ∷ 1 ∷ 2 ∷ 3 ∷ 4 ∷ 5 ∷ 6 ∷ 7 ∷ 8 ∷ 9 ∷ 10 ∷ 11 ∷ 12 ∷ udp_bytes

-- The heads of tunnels from 192.0.2.53 to 192.0.2.54. IPv4 in IP (RFC 2003), and IPv6 in IP (RFC 4213):
abbrev pub ipv4_in_ipv4 : List ℕ
ipv4_in_ipv4 = 69 ∷ 0 ∷ 0 ∷ 52 ∷ 0 ∷ 8 ∷ 0 ∷ 0 ∷ 64 ∷ 4 ∷ 246 ∷ 82 ∷ 192 ∷ 0 ∷ 2 ∷ 53 ∷ 192 ∷ 0 ∷ 2 ∷ 54 ∷ ipv4_bytes

abbrev pub ipv6_in_ipv4 : List ℕ
ipv6_in_ipv4 = 69 ∷ 0 ∷ 0 ∷ 88 ∷ 0 ∷ 8 ∷ 0 ∷ 0 ∷ 64 ∷ 41 ∷ 246 ∷ 9 ∷ 192 ∷ 0 ∷ 2 ∷ 53 ∷ 192 ∷ 0 ∷ 2 ∷ 54 ∷ ipv6_with_extensions

-- GRE with a checksum, a key and a number (RFC 2784; RFC 2890)
abbrev pub ipv4_in_gre : List ℕ
ipv4_in_gre = 69 ∷ 0 ∷ 0 ∷ 68 ∷ 0 ∷ 8 ∷ 0 ∷ 0 ∷ 64 ∷ 47 ∷ 246 ∷ 23 ∷ 192 ∷ 0 ∷ 2 ∷ 53 ∷ 192 ∷ 0 ∷ 2 ∷ 54 ∷ 176 ∷ 0 ∷ 8 ∷ 0 ∷ 204 ∷ 23 ∷ 0 ∷ 0 ∷ 0 ∷ 0 ∷ 0 ∷ 5 ∷ 0 ∷ 0 ∷ 0 ∷ 9 ∷ ipv4_bytes

-- a frame of Ethernet in GRE
abbrev pub ethernet_in_gre : List ℕ
ethernet_in_gre = 69 ∷ 0 ∷ 0 ∷ 70 ∷ 0 ∷ 8 ∷ 0 ∷ 0 ∷ 64 ∷ 47 ∷ 246 ∷ 21 ∷ 192 ∷ 0 ∷ 2 ∷ 53 ∷ 192 ∷ 0 ∷ 2 ∷ 54 ∷ 0 ∷ 0 ∷ 101 ∷ 88 ∷ 2 ∷ 0 ∷ 0 ∷ 0 ∷ 0 ∷ 2 ∷ 2 ∷ 0 ∷ 0 ∷ 0 ∷ 0 ∷ 1 ∷ 8 ∷ 0 ∷ ipv4_bytes

-- IPv4 in IP, in GRE
abbrev pub ipv4_in_two : List ℕ
ipv4_in_two = 69 ∷ 0 ∷ 0 ∷ 76 ∷ 0 ∷ 8 ∷ 0 ∷ 0 ∷ 64 ∷ 47 ∷ 246 ∷ 15 ∷ 192 ∷ 0 ∷ 2 ∷ 53 ∷ 192 ∷ 0 ∷ 2 ∷ 54 ∷ 0 ∷ 0 ∷ 8 ∷ 0 ∷ take 2 ipv4_in_ipv4 ++ 0 ∷ 52 ∷ 0 ∷ 9 ∷ 0 ∷ 0 ∷ 64 ∷ 4 ∷ 246 ∷ 81 ∷ drop 12 ipv4_in_ipv4

-- what ESP enciphers (RFC 4303), here 0 to 15
abbrev pub enciphered : List ℕ
enciphered = 69 ∷ 0 ∷ 0 ∷ 44 ∷ 0 ∷ 8 ∷ 0 ∷ 0 ∷ 64 ∷ 50 ∷ 246 ∷ 44 ∷ 192 ∷ 0 ∷ 2 ∷ 53 ∷ 192 ∷ 0 ∷ 2 ∷ 54 ∷ 0 ∷ 0 ∷ 1 ∷ 0 ∷ 0 ∷ 0 ∷ 0 ∷ 1 ∷ 0 ∷ 1 ∷ 2 ∷ 3 ∷ 4 ∷ 5 ∷ 6 ∷ 7 ∷ 8 ∷ 9 ∷ 10 ∷ 11 ∷ 12 ∷ 13 ∷ 14 ∷ 15 ∷ []

-- the head of Linux cooked, version 1: sent by the host that recorded
abbrev pub cooked_head : List ℕ
cooked_head = 0 ∷ 4 ∷ 0 ∷ 1 ∷ 0 ∷ 6 ∷ 2 ∷ 0 ∷ 0 ∷ 0 ∷ 0 ∷ 1 ∷ 0 ∷ 0 ∷ 8 ∷ 0 ∷ []

-- that of version 2: sent to the host that recorded (protocol, reserved, interface, ARPHRD, type 0, address)
abbrev pub cooked_two_head : List ℕ
cooked_two_head = 8 ∷ 0 ∷ 0 ∷ 0 ∷ 0 ∷ 0 ∷ 0 ∷ 2 ∷ 0 ∷ 1 ∷ 0 ∷ 6 ∷ 2 ∷ 0 ∷ 0 ∷ 0 ∷ 0 ∷ 1 ∷ 0 ∷ 0 ∷ []

-- BSD NULL of a little-endian host: family 30
abbrev pub null_head : List ℕ
null_head = 30 ∷ 0 ∷ 0 ∷ 0 ∷ []

-- the packet with identification 7, whose bytes from its header on are these
abbrev pub ipv4_packet : Direction → List ℕ → Packet
ipv4_packet direction bytes = record {
  direction = direction;
  source = host 7;
  target = host 1;
  protocol = 17;
  identification = Some 7;
  fragment = None;
  content = udp_bytes;
  packet = bytes;
}

abbrev pub ipv4_part : Packet
ipv4_part = record (ipv4_packet Unknown ipv4_fragment) {
  fragment = Some (record { id = 7; place = 1480; more = true });
  content = 104 ∷ 101 ∷ 108 ∷ 108 ∷ 111 ∷ 49 ∷ 50 ∷ 51 ∷ [];
}

abbrev pub ipv6_packet : Packet
ipv6_packet = record {
  direction = Unknown;
  source = host_of_ipv6 7;
  target = host_of_ipv6 1;
  protocol = 17;
  identification = None;
  fragment = None;
  content = udp_bytes_of_ipv6;
  packet = ipv6_with_extensions;
}

abbrev pub ipv6_part : Packet
ipv6_part = record ipv6_packet {
  fragment = Some (record { id = 16909060; place = 1448; more = true });
  content = 104 ∷ 101 ∷ 108 ∷ 108 ∷ 111 ∷ 49 ∷ 50 ∷ 51 ∷ [];
  packet = ipv6_fragment;
}

-- the acknowledgement
abbrev pub acknowledgement : Udp
acknowledgement = record { source_port = 40000; target_port = 69; payload = 0 ∷ 4 ∷ 0 ∷ 1 ∷ [] }
