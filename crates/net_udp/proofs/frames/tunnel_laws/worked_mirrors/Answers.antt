use Rattle.std.proofs.Common.{inl, inr, refl, sym, subst, arith, drop, None}
use Rattle.std.proofs.lemmas.Bool.{false≢true}
use Rattle.net_udp.specs.Frames.{IsCarried, IsInside, IsMirrored, LeadsIn, Linked, Reached, has_number, ipv4_bytes, mirrored_longer, mirrored_one, mirrored_packet, mirrored_three, mirrored_two, udp_bytes}
use Rattle.net_udp.specs.declared.frames.link.LinkType.TheVariants.{RawIpv4}
use Rattle.net_udp.specs.declared.frames.link.Network.TheVariants.{Ipv4}
use Rattle.net_udp.proofs.FramesLemmas.FaultOrder.{frame_first}
use Rattle.net_udp.proofs.FramesLemmas.Links.{link_one}
use Rattle.net_udp.proofs.FramesLemmas.Opened.{carried, of_ip}
use Rattle.net_udp.proofs.FramesLemmas.Tunnels.{in_tunnels, itself, none_inside, step}
use Rattle.net_udp.proofs.frames.tunnel_laws.worked_mirrors.Goals as goal

abbrev inmost : Reached
inmost = record { protocol = 17; fragment = None; content = udp_bytes }

pub returns-clause-one : goal.returns-clause-one
returns-clause-one c =
    let leads = itself (of_ip Ipv4 ipv4_bytes) Ipv4 inmost refl (inl (refl, refl)) refl in
    let tunnel = step (of_ip Ipv4 mirrored_one) (of_ip Ipv4 ipv4_bytes) (of_ip Ipv4 ipv4_bytes) Ipv4 (carried mirrored_one) refl
    ((omega arith, refl, omega arith, omega arith), inr (refl, refl, (0, inl (refl, (λ e. omega arith), refl))), refl)
    (inr (inl (refl, record { long = omega arith; flags = refl; whole = omega arith; carries = inr (record { mirror = refl; whole = omega arith; read = refl; carries = (2048, (1, (2048, (refl, omega arith, refl), (refl, refl, refl))), refl) }) }))) refl in
    in_tunnels 228 RawIpv4 mirrored_one (of_ip Ipv4 mirrored_one) (of_ip Ipv4 ipv4_bytes) Ipv4 inmost refl (omega arith, refl, (refl, refl)) (tunnel.1 leads) refl (omega arith, refl, omega arith, omega arith) (omega arith, omega arith) (inl (refl, refl)) refl

pub returns-clause-two : goal.returns-clause-two
returns-clause-two c =
    let leads = itself (of_ip Ipv4 ipv4_bytes) Ipv4 inmost refl (inl (refl, refl)) refl in
    let tunnel = step (of_ip Ipv4 mirrored_two) (of_ip Ipv4 ipv4_bytes) (of_ip Ipv4 ipv4_bytes) Ipv4 (carried mirrored_two) refl
    ((omega arith, refl, omega arith, omega arith), inr (refl, refl, (0, inl (refl, (λ e. omega arith), refl))), refl)
    (inr (inl (refl, record { long = omega arith; flags = refl; whole = omega arith; carries = inr (record { mirror = refl; whole = omega arith; read = refl; carries = (2048, (1, (2048, (refl, omega arith, refl), (refl, refl, refl))), refl) }) }))) refl in
    in_tunnels 228 RawIpv4 mirrored_two (of_ip Ipv4 mirrored_two) (of_ip Ipv4 ipv4_bytes) Ipv4 inmost refl (omega arith, refl, (refl, refl)) (tunnel.1 leads) refl (omega arith, refl, omega arith, omega arith) (omega arith, omega arith) (inl (refl, refl)) refl

pub returns-clause-three : goal.returns-clause-three
returns-clause-three c =
    let leads = itself (of_ip Ipv4 ipv4_bytes) Ipv4 inmost refl (inl (refl, refl)) refl in
    let tunnel = step (of_ip Ipv4 mirrored_three) (of_ip Ipv4 ipv4_bytes) (of_ip Ipv4 ipv4_bytes) Ipv4 (carried mirrored_three) refl
    ((omega arith, refl, omega arith, omega arith), inr (refl, refl, (0, inl (refl, (λ e. omega arith), refl))), refl)
    (inr (inl (refl, record { long = omega arith; flags = refl; whole = omega arith; carries = inr (record { mirror = refl; whole = omega arith; read = refl; carries = (2048, (1, (2048, (refl, omega arith, refl), (refl, refl, refl))), refl) }) }))) refl in
    in_tunnels 228 RawIpv4 mirrored_three (of_ip Ipv4 mirrored_three) (of_ip Ipv4 ipv4_bytes) Ipv4 inmost refl (omega arith, refl, (refl, refl)) (tunnel.1 leads) refl (omega arith, refl, omega arith, omega arith) (omega arith, omega arith) (inl (refl, refl)) refl

pub returns-clause-longer : goal.returns-clause-longer
returns-clause-longer c =
    let leads = itself (of_ip Ipv4 ipv4_bytes) Ipv4 inmost refl (inl (refl, refl)) refl in
    let tunnel = step (of_ip Ipv4 mirrored_longer) (of_ip Ipv4 ipv4_bytes) (of_ip Ipv4 ipv4_bytes) Ipv4 (carried mirrored_longer) refl
    ((omega arith, refl, omega arith, omega arith), inr (refl, refl, (0, inl (refl, (λ e. omega arith), refl))), refl)
    (inr (inl (refl, record { long = omega arith; flags = refl; whole = omega arith; carries = inr (record { mirror = refl; whole = omega arith; read = refl; carries = (2048, (1, (2048, (refl, omega arith, refl), (refl, refl, refl))), refl) }) }))) refl in
    in_tunnels 228 RawIpv4 mirrored_longer (of_ip Ipv4 mirrored_longer) (of_ip Ipv4 ipv4_bytes) Ipv4 inmost refl (omega arith, refl, (refl, refl)) (tunnel.1 leads) refl (omega arith, refl, omega arith, omega arith) (omega arith, omega arith) (inl (refl, refl)) refl

pub returns-clause-another : goal.returns-clause-another
returns-clause-another c = frame_first 228 mirrored_packet RawIpv4 refl none
  where
    unread : (inner : Linked) → IsMirrored 8939 (has_number (carried mirrored_packet).content) (drop 8 (carried mirrored_packet).content) inner → ⊥
    unread inner p = false≢true p.read

    nothing : (inner : Linked) → IsInside (carried mirrored_packet) inner → ⊥
    nothing inner (inl (other, _, _, _)) = other refl
    nothing inner (inr (inl (_, p))) = elim p.carries [ inl plain ↦ false≢true (sym plain.0) | inr q ↦ unread inner q ]
    nothing inner (inr (inr (is, _))) = omega (arith, is)

    none : (inner : Linked) → IsCarried RawIpv4 mirrored_packet inner → ⊥
    none inner (outer, spelled, leads) =
        none_inside (of_ip Ipv4 mirrored_packet) inner Ipv4 (carried mirrored_packet) refl ((omega arith, refl, omega arith, omega arith), inr (refl, refl, (0, inl (refl, (λ e. omega arith), refl))), refl) nothing
        (subst (λ (x : Linked). LeadsIn x inner) (link_one RawIpv4 mirrored_packet outer (of_ip Ipv4 mirrored_packet) spelled (omega arith, refl, (refl, refl))) leads)
