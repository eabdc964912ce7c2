use Rattle.std.proofs.Common.{List, ℕ, [], inl, inr, refl, subst, arith, take, drop, None}
use Rattle.std.proofs.lemmas.Bool.{false≢true}
use Rattle.net_udp.specs.Frames.{IsCarried, IsInUdp, IsInside, LeadsIn, Linked, Reached, arp_in_geneve, arp_in_vxlan, at, held_of, in_vxlan, part_of_vxlan}
use Rattle.net_udp.specs.Frames.Ip.{part_of}
use Rattle.net_udp.specs.declared.frames.link.LinkType.TheVariants.{RawIpv4}
use Rattle.net_udp.specs.declared.frames.link.Network.TheVariants.{Ipv4}
use Rattle.net_udp.specs.declared.frames.packet.Direction.TheVariants.{Unknown}
use Rattle.net_udp.proofs.FramesLemmas.Datagrams.{hidden}
use Rattle.net_udp.proofs.FramesLemmas.FaultOrder.{frame_first, network_first}
use Rattle.net_udp.proofs.FramesLemmas.Hosts.{none_between}
use Rattle.net_udp.proofs.FramesLemmas.Links.{link_one}
use Rattle.net_udp.proofs.FramesLemmas.Opened.{carried, of_ip}
use Rattle.net_udp.proofs.FramesLemmas.Tunnels.{none_inside, plainly, step, without_ip}
use Rattle.net_udp.proofs.FramesLemmas.Uppers.{no_hosts}
use Rattle.net_udp.proofs.frames.tunnel_laws.worked_closed_tunnels.Goals as goal

abbrev cut_short : List ℕ
cut_short = take 32 in_vxlan

pub returns-clause-cut : goal.returns-clause-cut
returns-clause-cut c = frame_first 228 cut_short RawIpv4 refl none
  where
    short : (inner : Linked) → IsInUdp (carried cut_short).content inner → ⊥
    short inner p = omega (arith, p.whole)

    nothing : (inner : Linked) → IsInside (carried cut_short) inner → ⊥
    nothing inner (inl (_, other, _, _)) = other refl
    nothing inner (inr (inl (is, _))) = omega (arith, is)
    nothing inner (inr (inr (_, p))) = short inner p

    none : (inner : Linked) → IsCarried RawIpv4 cut_short inner → ⊥
    none inner (outer, spelled, leads) =
        none_inside (of_ip Ipv4 cut_short) inner Ipv4 (carried cut_short) refl ((omega arith, refl, omega arith, omega arith), inl (refl, refl), refl) nothing
        (subst (λ (x : Linked). LeadsIn x inner) (link_one RawIpv4 cut_short outer (of_ip Ipv4 cut_short) spelled (omega arith, refl, (refl, refl))) leads)

pub returns-clause-another : goal.returns-clause-another
returns-clause-another c = frame_first 228 arp_in_geneve RawIpv4 refl none
  where
    nothing : (inner : Linked) → IsInside (carried arp_in_geneve) inner → ⊥
    nothing inner (inl (_, other, _, _)) = other refl
    nothing inner (inr (inl (is, _))) = omega (arith, is)
    nothing inner (inr (inr (_, p))) = false≢true p.type

    none : (inner : Linked) → IsCarried RawIpv4 arp_in_geneve inner → ⊥
    none inner (outer, spelled, leads) =
        none_inside (of_ip Ipv4 arp_in_geneve) inner Ipv4 (carried arp_in_geneve) refl ((omega arith, refl, omega arith, omega arith), inl (refl, refl), refl) nothing
        (subst (λ (x : Linked). LeadsIn x inner) (link_one RawIpv4 arp_in_geneve outer (of_ip Ipv4 arp_in_geneve) spelled (omega arith, refl, (refl, refl))) leads)

pub returns-clause-arp : goal.returns-clause-arp
returns-clause-arp c =
    let bare : Linked = record { direction = Unknown; network = None; content = [] } in
    let tunnel = step (of_ip Ipv4 arp_in_vxlan) bare bare Ipv4 (carried arp_in_vxlan) refl ((omega arith, refl, omega arith, omega arith), inl (refl, refl), refl)
    (inr (inr (refl, record { long = omega arith; whole = omega arith; type = refl; carries = (2054, (1, (2054, (refl, omega arith, refl), (refl, refl, refl))), refl) }))) refl in
    network_first 228 arp_in_vxlan bare (RawIpv4, refl, (of_ip Ipv4 arp_in_vxlan, (omega arith, refl, (refl, refl)), tunnel.1 (without_ip bare refl))) refl

-- what the first fragment carries
abbrev begun : Reached
begun = record { protocol = at part_of_vxlan 9; fragment = part_of part_of_vxlan; content = held_of Ipv4 part_of_vxlan }

pub returns-clause-part : goal.returns-clause-part
returns-clause-part c =
    none_between 228 part_of_vxlan (of_ip Ipv4 part_of_vxlan) Ipv4 (RawIpv4, refl, plainly RawIpv4 part_of_vxlan (of_ip Ipv4 part_of_vxlan) Ipv4 begun (omega arith, refl, (refl, refl)) refl (inl (refl, refl)) refl) refl
    (no_hosts Ipv4 part_of_vxlan begun (inl (refl, refl)) refl)

pub returns-clause-whole : goal.returns-clause-whole
returns-clause-whole c = hidden 17 (drop 20 in_vxlan) (record { protocol = 17; fragment = None; content = drop 20 in_vxlan }) (0, inl (refl, (λ e. omega arith), refl)) refl
