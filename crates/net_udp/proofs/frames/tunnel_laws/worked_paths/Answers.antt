use Rattle.std.proofs.Common.{◌++◌, ◌∷◌, refl, arith, drop}
use Rattle.net_udp.specs.Frames.{ipv4_bytes, ring_head, secured_head, stream_head, switched_head}
use Rattle.net_udp.specs.declared.frames.link.LinkType.TheVariants.{Ethernet}
use Rattle.net_udp.specs.declared.frames.packet.Direction.TheVariants.{Unknown}
use Rattle.net_udp.proofs.FramesLemmas.FaultOrder.{frame_first}
use Rattle.net_udp.proofs.FramesLemmas.Tags.{unread_shim}
use Rattle.net_udp.proofs.FramesLemmas.Tunnels.{not_linked, spells_ipv4}
use Rattle.net_udp.proofs.frames.tunnel_laws.worked_paths.Goals as goal

pub returns-clause-ring : goal.returns-clause-ring
returns-clause-ring c =
    spells_ipv4 1 Ethernet (ring_head ++ ipv4_bytes) Unknown ipv4_bytes refl (omega arith, refl, (2048, (1, (2048, (refl, omega arith, refl), (refl, refl, refl))), refl)) (omega arith, refl, omega arith, omega arith) (omega arith, omega arith) refl refl

pub returns-clause-stream : goal.returns-clause-stream
returns-clause-stream c =
    spells_ipv4 1 Ethernet (stream_head ++ ipv4_bytes) Unknown ipv4_bytes refl (omega arith, refl, (2048, (1, (2048, (refl, omega arith, refl), (refl, refl, refl))), refl)) (omega arith, refl, omega arith, omega arith) (omega arith, omega arith) refl refl

pub returns-clause-secured : goal.returns-clause-secured
returns-clause-secured c =
    frame_first 1 (secured_head ++ 8 ∷ 0 ∷ ipv4_bytes) Ethernet refl
    (not_linked Ethernet (secured_head ++ 8 ∷ 0 ∷ ipv4_bytes) (λ carried s. unread_shim 35045 (drop 14 (secured_head ++ 8 ∷ 0 ∷ ipv4_bytes)) s.2.0 carried.content refl refl s.2.1))

pub returns-clause-switched : goal.returns-clause-switched
returns-clause-switched c =
    frame_first 1 (switched_head ++ ipv4_bytes) Ethernet refl
    (not_linked Ethernet (switched_head ++ ipv4_bytes) (λ carried s. unread_shim 56026 (drop 14 (switched_head ++ ipv4_bytes)) s.2.0 carried.content refl refl s.2.1))
