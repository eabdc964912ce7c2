use Rattle.std.proofs.Common.{◌++◌, inl, inr, refl, arith, None}
use Rattle.net_udp.specs.Frames.{udp_bytes, udp_bytes_of_ipv6, ipv4_bytes, ipv4_authenticated, ipv6_authenticated, labels_head, session_head, snap_head}
use Rattle.net_udp.specs.declared.frames.link.LinkType.TheVariants.{Ethernet, RawIpv4, RawIpv6}
use Rattle.net_udp.specs.declared.frames.link.Network.TheVariants.{Ipv4, Ipv6}
use Rattle.net_udp.specs.declared.frames.packet.Direction.TheVariants.{Unknown}
use Rattle.net_udp.proofs.FramesLemmas.Tunnels.{spells, spells_ipv4}
use Rattle.net_udp.proofs.frames.laws.worked_shims.Goals as goal

pub returns-clause-snap : goal.returns-clause-snap
returns-clause-snap c =
    spells_ipv4 1 Ethernet (snap_head ++ ipv4_bytes) Unknown ipv4_bytes refl (omega arith, refl, (2048, (1, (2048, (refl, omega arith, refl), (refl, refl, refl))), refl)) (omega arith, refl, omega arith, omega arith) (omega arith, omega arith) refl refl

pub returns-clause-session : goal.returns-clause-session
returns-clause-session c =
    spells_ipv4 1 Ethernet (session_head 33 ++ ipv4_bytes) Unknown ipv4_bytes refl (omega arith, refl, (2048, (1, (2048, (refl, omega arith, refl), (refl, refl, refl))), refl)) (omega arith, refl, omega arith, omega arith) (omega arith, omega arith) refl refl

pub returns-clause-labels : goal.returns-clause-labels
returns-clause-labels c =
    spells_ipv4 1 Ethernet (labels_head ++ ipv4_bytes) Unknown ipv4_bytes refl
    (omega arith, refl, (2048, (2, (34887, (refl, omega arith, refl), (2048, (refl, omega arith, refl), (refl, refl, refl)))), refl)) (omega arith, refl, omega arith, omega arith) (omega arith, omega arith) refl refl

pub returns-clause-authenticated : goal.returns-clause-authenticated
returns-clause-authenticated c =
    spells 228 RawIpv4 ipv4_authenticated Unknown Ipv4 ipv4_authenticated (record { protocol = 17; fragment = None; content = udp_bytes }) refl (omega arith, refl, (refl, refl)) (omega arith, refl, omega arith, omega arith) (omega arith, omega arith)
    (inr (refl, refl, (1, ((omega arith, omega arith, inl refl), inl (refl, (λ e. omega arith), refl))))) refl refl

pub returns-clause-authenticated_ipv6 : goal.returns-clause-authenticated_ipv6
returns-clause-authenticated_ipv6 c =
    spells 229 RawIpv6 ipv6_authenticated Unknown Ipv6 ipv6_authenticated (record { protocol = 17; fragment = None; content = udp_bytes_of_ipv6 }) refl (omega arith, refl, (refl, refl)) (omega arith, refl) (omega arith, omega arith)
    (1, ((omega arith, omega arith, inl refl), inl (refl, (λ e. omega arith), refl))) refl refl
