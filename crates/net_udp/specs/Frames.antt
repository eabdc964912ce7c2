pub mod Number
pub mod Tag
pub mod Link
pub mod OverUdp
pub mod Extension
pub mod Ip
pub mod Tunnel
pub mod Unread
pub mod Frame
pub mod UdpDatagrams
pub mod Unreachable
pub mod Checksums
pub mod Parts
pub mod Faults
pub mod Worked
pub mod Told
pub mod WorkedTunnels
pub mod WorkedUnread
pub use Rattle.net_udp.specs.Frames.Number.{at, pair}
pub use Rattle.net_udp.specs.Frames.Tag.{IsOver, LeadsOver, LeadsTo, is_said, is_shim, is_tag_type, next_type, shim_size}
pub use Rattle.net_udp.specs.Frames.Link.{Carries, CarriesTyped, Linked, SpellsLink, direction_said, index_of, least, link_named, packet_direction, type_network}
pub use Rattle.net_udp.specs.Frames.OverUdp.{is_over_udp, is_tunnel_port, over_udp_size, over_udp_type, payload_of}
pub use Rattle.net_udp.specs.Frames.Extension.{IsSkipped, Reached, ReachesOver, Stops, StopsAfter, begins_over_udp, fragment_header, fragment_of, is_atomic, is_extension, is_hidden_in, is_of_units, is_opened, is_read_part, is_skippable, is_tunnel, is_wrapping, leads_on, skipped_size}
pub use Rattle.net_udp.specs.Frames.Ip.{HasHeader, Packet, Reaches, ReachesInIpv4, SpellsIp, TellsHosts, held_of, is_identified, may_be_udp, packet_of, size_of, source_of, target_of, total_of}
pub use Rattle.net_udp.specs.Frames.Tunnel.{IsCarried, IsInGre, IsInUdp, IsInside, IsMirrored, IsOfType, IsTunnel, LeadsIn, LeadsInOver, gre, gre_size, has_number, is_gre_read, is_mirror, is_mirror_read, is_type_in_gre, mirror_size, network_in_ip, udp}
pub use Rattle.net_udp.specs.Frames.Unread.{HasUnread, IsSealed, IsSealedIn, IsUnreadInIp, IsUnreadInside, IsUnreadOver, SealedOver, UnreadAfter, UnreadIn, UnreadInIpv4, header_name, hidden_by, hidden_part, routed_on, sealed_by, type_in, unread_by}
pub use Rattle.net_udp.specs.Frames.Frame.{IsBetween, IsLinked, SpellsFrame}
pub use Rattle.net_udp.specs.Frames.UdpDatagrams.{HasUdp, HoldsUdp, IsHidden, IsSized, IsSound, JudgesUdp, SpellsUdp, Udp, datagram}
pub use Rattle.net_udp.specs.Frames.Checksums.{address_bytes, checksum_of, headed_wrong, in_ones_complement, is_headed_right, is_left, is_right, is_unsummed, none_made, pseudo_sum, udp_checksum, udp_sum, verdict, word_sum}
pub use Rattle.net_udp.specs.Frames.Unreachable.{CarriesWhole, Quotes, Tells, TellsUnreachable, icmp_number, unreachable_type}
pub use Rattle.net_udp.specs.Frames.Parts.{linked, reached, shown}
pub use Rattle.net_udp.specs.Frames.Faults.{FirstFault, FirstIpFault, Holds, HoldsIp, IsNotWhole, Judges, JudgesIp, place}
pub use Rattle.net_udp.specs.Frames.Worked.{acknowledgement, cooked_head, enciphered, ethernet_in_gre, host, ipv4_authenticated, ipv4_bytes, ipv4_fragment, ipv4_in_gre, ipv4_in_ipv4, ipv4_in_two, ipv4_packet, ipv4_with_options, ipv6_in_ipv4, ipv6_authenticated, ipv6_fragment, ipv6_fragment_of_icmp, ipv6_of_no_units, ipv6_part, ipv6_routed, ipv6_with_extensions, labels_head, session_head, snap_head, two_old_tags, two_tags, udp_bytes, udp_bytes_of_ipv6, udp_left, udp_left_of_ipv6, udp_of_three}
pub use Rattle.net_udp.specs.Frames.Told.{echo_bytes, no_port, no_port_ipv6, unreachable_bytes, unreachable_cut, unreachable_ipv6_bytes}
pub use Rattle.net_udp.specs.Frames.WorkedTunnels.{ack_to_geneve, ack_to_vxlan, arp_in_geneve, arp_in_vxlan, in_geneve, in_geneve_with_options, in_vxlan, in_vxlan_reserved, inner_frame, mirrored_longer, mirrored_one, mirrored_packet, mirrored_three, mirrored_two, part_of_vxlan, reserved_packet, ring_head, secured_head, stream_head, switched_head}
pub use Rattle.net_udp.specs.Frames.WorkedUnread.{enciphered_authenticated, enciphered_part, mobile, secured_behind_tags}
