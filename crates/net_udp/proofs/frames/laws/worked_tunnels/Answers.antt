use Rattle.std.proofs.Common.{ℕ, List, inl, inr, refl, arith, drop, Some, None}
use Rattle.net_udp.specs.Frames.{Linked, Reached, at, held_of, udp_bytes, udp_bytes_of_ipv6, ipv4_bytes, ipv4_in_ipv4, ipv4_in_gre, ipv4_in_two, ethernet_in_gre, ipv6_in_ipv4, ipv6_with_extensions}
use Rattle.net_udp.specs.declared.frames.link.LinkType.TheVariants.{RawIpv4}
use Rattle.net_udp.specs.declared.frames.link.Network.{Network}
use Rattle.net_udp.specs.declared.frames.link.Network.TheVariants.{Ipv4, Ipv6}
use Rattle.net_udp.specs.declared.frames.packet.Direction.TheVariants.{Unknown}
use Rattle.net_udp.proofs.FramesLemmas.Tunnels.{in_tunnels, itself, step}
use Rattle.net_udp.proofs.frames.laws.worked_tunnels.Goals as goal

-- a packet of IP, with what the link says of it
abbrev of_ip : Network → List ℕ → Linked
of_ip network bytes = record { direction = Unknown; network = Some network; content = bytes }

-- what a whole packet of IPv4 carries that is one of a tunnel
abbrev carried : List ℕ → Reached
carried bytes = record { protocol = at bytes 9; fragment = None; content = held_of Ipv4 bytes }

abbrev inmost : Reached
inmost = record { protocol = 17; fragment = None; content = udp_bytes }

abbrev inmost_of_ipv6 : Reached
inmost_of_ipv6 = record { protocol = 17; fragment = None; content = udp_bytes_of_ipv6 }

pub returns-clause-in_ip : goal.returns-clause-in_ip
returns-clause-in_ip c =
    let leads = itself (of_ip Ipv4 ipv4_bytes) Ipv4 inmost refl (inl (refl, refl)) refl in
    let tunnel = step (of_ip Ipv4 ipv4_in_ipv4) (of_ip Ipv4 ipv4_bytes) (of_ip Ipv4 ipv4_bytes) Ipv4 (carried ipv4_in_ipv4) refl
    ((omega arith, refl, omega arith, omega arith), inr (refl, refl, (0, inl (refl, (λ e. omega arith), refl))), refl) (inl ((λ e. omega arith), (λ e. omega arith), refl, refl)) refl in
    in_tunnels 228 RawIpv4 ipv4_in_ipv4 (of_ip Ipv4 ipv4_in_ipv4) (of_ip Ipv4 ipv4_bytes) Ipv4 inmost refl (omega arith, refl, (refl, refl)) (tunnel.1 leads) refl (omega arith, refl, omega arith, omega arith) (omega arith, omega arith) (inl (refl, refl)) refl

pub returns-clause-six_in_four : goal.returns-clause-six_in_four
returns-clause-six_in_four c =
    let leads = itself (of_ip Ipv6 ipv6_with_extensions) Ipv6 inmost_of_ipv6 refl (2, ((omega arith, omega arith, inl refl), ((omega arith, omega arith, inl refl), inl (refl, (λ e. omega arith), refl)))) refl in
    let tunnel = step (of_ip Ipv4 ipv6_in_ipv4) (of_ip Ipv6 ipv6_with_extensions) (of_ip Ipv6 ipv6_with_extensions) Ipv4 (carried ipv6_in_ipv4) refl
    ((omega arith, refl, omega arith, omega arith), inr (refl, refl, (0, inl (refl, (λ e. omega arith), refl))), refl) (inl ((λ e. omega arith), (λ e. omega arith), refl, refl)) refl in
    in_tunnels 228 RawIpv4 ipv6_in_ipv4 (of_ip Ipv4 ipv6_in_ipv4) (of_ip Ipv6 ipv6_with_extensions) Ipv6 inmost_of_ipv6 refl (omega arith, refl, (refl, refl)) (tunnel.1 leads) refl (omega arith, refl) (omega arith, omega arith)
    (2, ((omega arith, omega arith, inl refl), ((omega arith, omega arith, inl refl), inl (refl, (λ e. omega arith), refl)))) refl

pub returns-clause-in_gre : goal.returns-clause-in_gre
returns-clause-in_gre c =
    let leads = itself (of_ip Ipv4 ipv4_bytes) Ipv4 inmost refl (inl (refl, refl)) refl in
    let tunnel = step (of_ip Ipv4 ipv4_in_gre) (of_ip Ipv4 ipv4_bytes) (of_ip Ipv4 ipv4_bytes) Ipv4 (carried ipv4_in_gre) refl
    ((omega arith, refl, omega arith, omega arith), inr (refl, refl, (0, inl (refl, (λ e. omega arith), refl))), refl)
    (inr (inl (refl, record { long = omega arith; flags = refl; whole = omega arith; carries = inl (refl, refl, (2048, (0, (refl, refl, refl)), refl)) }))) refl in
    in_tunnels 228 RawIpv4 ipv4_in_gre (of_ip Ipv4 ipv4_in_gre) (of_ip Ipv4 ipv4_bytes) Ipv4 inmost refl (omega arith, refl, (refl, refl)) (tunnel.1 leads) refl (omega arith, refl, omega arith, omega arith) (omega arith, omega arith) (inl (refl, refl)) refl

pub returns-clause-ethernet : goal.returns-clause-ethernet
returns-clause-ethernet c =
    let leads = itself (of_ip Ipv4 ipv4_bytes) Ipv4 inmost refl (inl (refl, refl)) refl in
    let tunnel = step (of_ip Ipv4 ethernet_in_gre) (of_ip Ipv4 ipv4_bytes) (of_ip Ipv4 ipv4_bytes) Ipv4 (carried ethernet_in_gre) refl
    ((omega arith, refl, omega arith, omega arith), inr (refl, refl, (0, inl (refl, (λ e. omega arith), refl))), refl)
    (inr (inl (refl, record { long = omega arith; flags = refl; whole = omega arith; carries = inl (refl, refl, (2048, (1, (2048, (refl, omega arith, refl), (refl, refl, refl))), refl)) }))) refl in
    in_tunnels 228 RawIpv4 ethernet_in_gre (of_ip Ipv4 ethernet_in_gre) (of_ip Ipv4 ipv4_bytes) Ipv4 inmost refl (omega arith, refl, (refl, refl)) (tunnel.1 leads) refl (omega arith, refl, omega arith, omega arith) (omega arith, omega arith) (inl (refl, refl)) refl

pub returns-clause-two : goal.returns-clause-two
returns-clause-two c =
    let leads = itself (of_ip Ipv4 ipv4_bytes) Ipv4 inmost refl (inl (refl, refl)) refl in
    let inner = step (of_ip Ipv4 (drop 24 ipv4_in_two)) (of_ip Ipv4 ipv4_bytes) (of_ip Ipv4 ipv4_bytes) Ipv4 (carried (drop 24 ipv4_in_two)) refl
    ((omega arith, refl, omega arith, omega arith), inr (refl, refl, (0, inl (refl, (λ e. omega arith), refl))), refl) (inl ((λ e. omega arith), (λ e. omega arith), refl, refl)) refl in
    let outer = step (of_ip Ipv4 ipv4_in_two) (of_ip Ipv4 (drop 24 ipv4_in_two)) (of_ip Ipv4 ipv4_bytes) Ipv4 (carried ipv4_in_two) refl
    ((omega arith, refl, omega arith, omega arith), inr (refl, refl, (0, inl (refl, (λ e. omega arith), refl))), refl)
    (inr (inl (refl, record { long = omega arith; flags = refl; whole = omega arith; carries = inl (refl, refl, (2048, (0, (refl, refl, refl)), refl)) }))) refl in
    in_tunnels 228 RawIpv4 ipv4_in_two (of_ip Ipv4 ipv4_in_two) (of_ip Ipv4 ipv4_bytes) Ipv4 inmost refl (omega arith, refl, (refl, refl)) (outer.1 (inner.1 leads)) refl (omega arith, refl, omega arith, omega arith) (omega arith, omega arith) (inl (refl, refl)) refl
