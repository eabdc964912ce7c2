use Rattle.std.proofs.Common.{ℕ, inl, inr, List, ◌++◌, [], ◌∷◌, refl, sym, subst, arith, Some, None, Err, take, drop}
use Rattle.std.proofs.lemmas.Bool.{false≢true}
use Rattle.net_udp.specs.Frames.{FirstFault, HasHeader, IsCarried, IsInside, LeadsIn, Linked, Reached, Reaches, at, enciphered, held_of, ipv4_bytes, ipv4_fragment, ipv4_in_gre, ipv6_authenticated, ipv6_of_no_units, ipv6_routed, labels_head, session_head, two_tags}
use Rattle.net_udp.specs.Frames.Ip.{IsWhole, part_of}
use Rattle.net_udp.specs.declared.frames.fault.FrameFault.TheVariants.{Cut, Extension}
use Rattle.net_udp.specs.declared.frames.link.LinkType.TheVariants.{Ethernet, Raw, RawIpv4, RawIpv6}
use Rattle.net_udp.specs.declared.frames.link.Network.TheVariants.{Ipv4, Ipv6}
use Rattle.net_udp.specs.declared.frames.packet.Direction.TheVariants.{Unknown}
use Rattle.net_udp.specs.declared.frames.fault.FrameFault.TheVariants.{Protocol}
use Rattle.net_udp.proofs.FramesLemmas.Tags.{short_shim, unread_shim, step as shim_step}
use Rattle.net_udp.proofs.FramesLemmas.Extensions.{unread, unread_part}
use Rattle.net_udp.proofs.FramesLemmas.Links.{link_one}
use Rattle.net_udp.proofs.FramesLemmas.Tunnels.{no_ip, none_inside, not_linked, nothing_reached, plainly}
use Rattle.net_udp.proofs.FramesLemmas.FaultOrder.{extension_first, judged, length_first, protocol_first, network_first, frame_first}
use Rattle.net_udp.proofs.frames.laws.worked_faults.Goals as goal

-- a packet of IPv4, with what the link says of it, and what it carries
abbrev of_ip : List ℕ → Linked
of_ip bytes = record { direction = Unknown; network = Some Ipv4; content = bytes }

abbrev carried : List ℕ → Reached
carried bytes = record { protocol = at bytes 9; fragment = part_of bytes; content = held_of Ipv4 bytes }

pub returns-clause-cut : goal.returns-clause-cut
returns-clause-cut c =
    judged 101 (take 31 ipv4_bytes) (of_ip (take 31 ipv4_bytes)) Ipv4 (Raw, refl, plainly Raw (take 31 ipv4_bytes) (of_ip (take 31 ipv4_bytes)) Ipv4 (carried (take 31 ipv4_bytes)) (omega arith, refl, (refl, refl)) refl (inl (refl, refl)) refl) refl (Err Cut)
    (length_first Ipv4 (take 31 ipv4_bytes) (carried (take 31 ipv4_bytes)) Cut (omega arith, refl, omega arith, omega arith) (inl (refl, refl)) refl (omega arith, omega arith))

-- the packet of TCP
abbrev of_tcp : List ℕ
of_tcp = take 9 ipv4_bytes ++ 6 ∷ drop 10 ipv4_bytes

pub returns-clause-tcp : goal.returns-clause-tcp
returns-clause-tcp c =
    judged 101 of_tcp (of_ip of_tcp) Ipv4 (Raw, refl, plainly Raw of_tcp (of_ip of_tcp) Ipv4 (carried of_tcp) (omega arith, refl, (refl, refl)) refl (inl (refl, refl)) refl) refl (Err Protocol)
    (protocol_first Ipv4 of_tcp (carried of_tcp) (omega arith, refl, omega arith, omega arith) (inl (refl, refl)) refl)

pub returns-clause-arp : goal.returns-clause-arp
returns-clause-arp c =
    let bare : Linked = record { direction = Unknown; network = None; content = [] } in
    network_first 1 (take 12 two_tags ++ 8 ∷ 6 ∷ []) bare (Ethernet, refl, no_ip Ethernet (take 12 two_tags ++ 8 ∷ 6 ∷ []) bare (omega arith, refl, (2054, (0, (refl, refl, refl)), refl)) refl) refl

pub returns-clause-tag : goal.returns-clause-tag
returns-clause-tag c =
    frame_first 1 (take 16 two_tags) Ethernet refl (not_linked Ethernet (take 16 two_tags) (λ carried s. short_shim 34984 (0 ∷ 9 ∷ []) s.2.0 carried.content refl (omega arith) s.2.1))

-- such a packet of IPv6 has the fault, whose first header is not read
not_read : (bytes : List ℕ) → HasHeader Ipv6 bytes → IsWhole Ipv6 bytes → ((r : Reached) → Reaches Ipv6 bytes r → ⊥) → FirstFault 229 bytes Extension
not_read bytes header whole none =
    let outer : Linked = record { direction = Unknown; network = Some Ipv6; content = bytes } in
    judged 229 bytes outer Ipv6 (RawIpv6, refl, nothing_reached RawIpv6 bytes outer Ipv6 (omega arith, refl, (refl, refl)) refl none) refl (Err Extension)
    (extension_first Ipv6 bytes header whole.0 whole.1 none)

-- and such a one of IPv4
not_read_in_ipv4 : (bytes : List ℕ) → HasHeader Ipv4 bytes → IsWhole Ipv4 bytes → ((r : Reached) → Reaches Ipv4 bytes r → ⊥) → FirstFault 228 bytes Extension
not_read_in_ipv4 bytes header whole none =
    judged 228 bytes (of_ip bytes) Ipv4 (RawIpv4, refl, nothing_reached RawIpv4 bytes (of_ip bytes) Ipv4 (omega arith, refl, (refl, refl)) refl none) refl (Err Extension)
    (extension_first Ipv4 bytes header whole.0 whole.1 none)

pub returns-clause-units : goal.returns-clause-units
returns-clause-units c = not_read ipv6_of_no_units (omega arith, refl) (omega arith, omega arith) (λ r. unread_part (held_of Ipv6 ipv6_of_no_units) r refl refl)

pub returns-clause-routed : goal.returns-clause-routed
returns-clause-routed c = not_read (ipv6_routed 1) (omega arith, refl) (omega arith, omega arith) (λ r. unread (at (ipv6_routed 1) 6) (held_of Ipv6 (ipv6_routed 1)) r (λ e. omega arith) refl refl)

abbrev esp_in_ipv6 : List ℕ
esp_in_ipv6 = take 6 ipv6_authenticated ++ 50 ∷ drop 7 ipv6_authenticated

pub returns-clause-esp_ipv6 : goal.returns-clause-esp_ipv6
returns-clause-esp_ipv6 c = not_read esp_in_ipv6 (omega arith, refl) (omega arith, omega arith) (λ r. unread (at esp_in_ipv6 6) (held_of Ipv6 esp_in_ipv6) r (λ e. omega arith) refl refl)

pub returns-clause-esp : goal.returns-clause-esp
returns-clause-esp c = not_read_in_ipv4 enciphered (omega arith, refl, omega arith, omega arith) (omega arith, omega arith) none
  where
    none : (r : Reached) → Reaches Ipv4 enciphered r → ⊥
    none r (inl (plain, _)) = false≢true (sym plain)
    none r (inr (_, _, over)) = unread 50 (held_of Ipv4 enciphered) r (λ e. omega arith) refl refl over

abbrev part_of_tunnel : List ℕ
part_of_tunnel = take 9 ipv4_fragment ++ 4 ∷ drop 10 ipv4_fragment

pub returns-clause-tunnel_part : goal.returns-clause-tunnel_part
returns-clause-tunnel_part c = not_read_in_ipv4 part_of_tunnel (omega arith, refl, omega arith, omega arith) (omega arith, omega arith) none
  where
    none : (r : Reached) → Reaches Ipv4 part_of_tunnel r → ⊥
    none r (inl (plain, _)) = false≢true (sym plain)
    none r (inr (_, whole, _)) = let bad : ⊥ = cc in bad

abbrev version_one : List ℕ
version_one = take 21 ipv4_in_gre ++ 1 ∷ drop 22 ipv4_in_gre

abbrev in_version_one : Reached
in_version_one = record { protocol = 47; fragment = None; content = drop 20 version_one }

pub returns-clause-gre : goal.returns-clause-gre
returns-clause-gre c = frame_first 228 version_one RawIpv4 refl none
  where
    nothing : (inner : Linked) → IsInside in_version_one inner → ⊥
    nothing inner (inl (other, _, _, _)) = other refl
    nothing inner (inr (inl (_, p))) = false≢true p.flags
    nothing inner (inr (inr (is, _))) = omega (arith, is)

    none : (carried : Linked) → IsCarried RawIpv4 version_one carried → ⊥
    none carried (outer, spelled, leads) =
        none_inside (of_ip version_one) carried Ipv4 in_version_one refl ((omega arith, refl, omega arith, omega arith), inr (refl, refl, (0, inl (refl, (λ e. omega arith), refl))), refl) nothing
        (subst (λ (x : Linked). LeadsIn x carried) (link_one RawIpv4 version_one outer (of_ip version_one) spelled (omega arith, refl, (refl, refl))) leads)

pub returns-clause-ppp : goal.returns-clause-ppp
returns-clause-ppp c =
    frame_first 1 (session_head 253 ++ ipv4_bytes) Ethernet refl
    (not_linked Ethernet (session_head 253 ++ ipv4_bytes) (λ carried s. unread_shim 34916 (drop 14 (session_head 253 ++ ipv4_bytes)) s.2.0 carried.content refl refl s.2.1))

pub returns-clause-label : goal.returns-clause-label
returns-clause-label c =
    frame_first 1 (labels_head ++ 0 ∷ []) Ethernet refl
    (not_linked Ethernet (labels_head ++ 0 ∷ []) (λ carried s. unread_shim 34887 (0 ∷ 1 ∷ 17 ∷ 64 ∷ 0 ∷ []) s.2.0 carried.content refl refl
    ((shim_step 34887 (0 ∷ 1 ∷ 0 ∷ 64 ∷ 0 ∷ 1 ∷ 17 ∷ 64 ∷ 0 ∷ []) 34887 s.2.0 carried.content (refl, omega arith, refl)).0 s.2.1)))
