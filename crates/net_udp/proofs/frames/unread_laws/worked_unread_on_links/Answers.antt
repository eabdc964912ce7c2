use Rattle.std.proofs.Common.{◌++◌, inl, refl, arith}
use Rattle.net_udp.specs.Frames.{ipv4_bytes, ipv4_packet, ring_head}
use Rattle.net_udp.specs.declared.frames.link.LinkType.TheVariants.{Ethernet}
use Rattle.net_udp.specs.declared.frames.packet.Direction.TheVariants.{Unknown}
use Rattle.net_udp.proofs.FramesLemmas.Tunnels.{spells_ipv4}
use Rattle.net_udp.proofs.FramesLemmas.UnreadOnce.{read_has_none}
use Rattle.net_udp.proofs.frames.unread_laws.worked_unread_on_links.Goals as goal

pub returns-clause-secured : goal.returns-clause-secured
returns-clause-secured c = (Ethernet, refl, inl (35045, omega arith, refl, (0, refl)))

pub returns-clause-tagged : goal.returns-clause-tagged
returns-clause-tagged c = (Ethernet, refl, inl (34984, omega arith, refl, (2, (33024, (refl, omega arith, refl), (35045, (refl, omega arith, refl), refl)))))

pub returns-clause-switched : goal.returns-clause-switched
returns-clause-switched c = (Ethernet, refl, inl (56026, omega arith, refl, (0, refl)))

pub returns-clause-ring : goal.returns-clause-ring
returns-clause-ring c = λ u has.
    read_has_none 1 (ring_head ++ ipv4_bytes) u (ipv4_packet Unknown ipv4_bytes) has
    (spells_ipv4 1 Ethernet (ring_head ++ ipv4_bytes) Unknown ipv4_bytes refl (omega arith, refl, (2048, (1, (2048, (refl, omega arith, refl), (refl, refl, refl))), refl)) (omega arith, refl, omega arith, omega arith) (omega arith, omega arith) refl refl)
