use Rattle.std.proofs.Common.{inl, inr, refl, arith, None}
use Rattle.net_udp.specs.Frames.{Reached, ack_to_geneve, ack_to_vxlan, in_geneve, in_geneve_with_options, in_vxlan, in_vxlan_reserved, ipv4_bytes, udp_bytes}
use Rattle.net_udp.specs.declared.frames.link.LinkType.TheVariants.{RawIpv4}
use Rattle.net_udp.specs.declared.frames.link.Network.TheVariants.{Ipv4}
use Rattle.net_udp.specs.declared.frames.packet.Direction.TheVariants.{Unknown}
use Rattle.net_udp.proofs.FramesLemmas.Opened.{carried, of_ip}
use Rattle.net_udp.proofs.FramesLemmas.Tunnels.{in_tunnels, itself, spells_ipv4, step}
use Rattle.net_udp.proofs.frames.tunnel_laws.worked_over_udp.Goals as goal

abbrev inmost : Reached
inmost = record { protocol = 17; fragment = None; content = udp_bytes }

pub returns-clause-vxlan : goal.returns-clause-vxlan
returns-clause-vxlan c =
    let leads = itself (of_ip Ipv4 ipv4_bytes) Ipv4 inmost refl (inl (refl, refl)) refl in
    let tunnel = step (of_ip Ipv4 in_vxlan) (of_ip Ipv4 ipv4_bytes) (of_ip Ipv4 ipv4_bytes) Ipv4 (carried in_vxlan) refl ((omega arith, refl, omega arith, omega arith), inl (refl, refl), refl)
    (inr (inr (refl, record { long = omega arith; whole = omega arith; type = refl; carries = (2048, (1, (2048, (refl, omega arith, refl), (refl, refl, refl))), refl) }))) refl in
    in_tunnels 228 RawIpv4 in_vxlan (of_ip Ipv4 in_vxlan) (of_ip Ipv4 ipv4_bytes) Ipv4 inmost refl (omega arith, refl, (refl, refl)) (tunnel.1 leads) refl (omega arith, refl, omega arith, omega arith) (omega arith, omega arith) (inl (refl, refl)) refl

pub returns-clause-geneve : goal.returns-clause-geneve
returns-clause-geneve c =
    let leads = itself (of_ip Ipv4 ipv4_bytes) Ipv4 inmost refl (inl (refl, refl)) refl in
    let tunnel = step (of_ip Ipv4 in_geneve) (of_ip Ipv4 ipv4_bytes) (of_ip Ipv4 ipv4_bytes) Ipv4 (carried in_geneve) refl ((omega arith, refl, omega arith, omega arith), inl (refl, refl), refl)
    (inr (inr (refl, record { long = omega arith; whole = omega arith; type = refl; carries = (2048, (0, (refl, refl, refl)), refl) }))) refl in
    in_tunnels 228 RawIpv4 in_geneve (of_ip Ipv4 in_geneve) (of_ip Ipv4 ipv4_bytes) Ipv4 inmost refl (omega arith, refl, (refl, refl)) (tunnel.1 leads) refl (omega arith, refl, omega arith, omega arith) (omega arith, omega arith) (inl (refl, refl)) refl

pub returns-clause-options : goal.returns-clause-options
returns-clause-options c =
    let leads = itself (of_ip Ipv4 ipv4_bytes) Ipv4 inmost refl (inl (refl, refl)) refl in
    let tunnel = step (of_ip Ipv4 in_geneve_with_options) (of_ip Ipv4 ipv4_bytes) (of_ip Ipv4 ipv4_bytes) Ipv4 (carried in_geneve_with_options) refl ((omega arith, refl, omega arith, omega arith), inl (refl, refl), refl)
    (inr (inr (refl, record { long = omega arith; whole = omega arith; type = refl; carries = (2048, (1, (2048, (refl, omega arith, refl), (refl, refl, refl))), refl) }))) refl in
    in_tunnels 228 RawIpv4 in_geneve_with_options (of_ip Ipv4 in_geneve_with_options) (of_ip Ipv4 ipv4_bytes) Ipv4 inmost refl (omega arith, refl, (refl, refl)) (tunnel.1 leads) refl (omega arith, refl, omega arith, omega arith) (omega arith, omega arith)
    (inl (refl, refl)) refl

pub returns-clause-ack_to_vxlan : goal.returns-clause-ack_to_vxlan
returns-clause-ack_to_vxlan c = spells_ipv4 228 RawIpv4 ack_to_vxlan Unknown ack_to_vxlan refl (omega arith, refl, (refl, refl)) (omega arith, refl, omega arith, omega arith) (omega arith, omega arith) refl refl

pub returns-clause-ack_to_geneve : goal.returns-clause-ack_to_geneve
returns-clause-ack_to_geneve c = spells_ipv4 228 RawIpv4 ack_to_geneve Unknown ack_to_geneve refl (omega arith, refl, (refl, refl)) (omega arith, refl, omega arith, omega arith) (omega arith, omega arith) refl refl

pub returns-clause-reserved : goal.returns-clause-reserved
returns-clause-reserved c = spells_ipv4 228 RawIpv4 in_vxlan_reserved Unknown in_vxlan_reserved refl (omega arith, refl, (refl, refl)) (omega arith, refl, omega arith, omega arith) (omega arith, omega arith) refl refl
