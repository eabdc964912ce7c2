use Rattle.std.proofs.Common.{◌++◌, [], ◌∷◌, inl, inr, refl, arith, None}
use Rattle.net_udp.specs.Frames.{cooked_head, two_old_tags, two_tags, udp_bytes_of_ipv6, ipv4_bytes, ipv4_with_options, ipv4_fragment, ipv6_with_extensions, ipv6_fragment, ipv6_fragment_of_icmp, ipv6_routed, ipv6_part}
use Rattle.net_udp.specs.Frames.Worked.{cooked_two_head, null_head}
use Rattle.net_udp.specs.declared.frames.link.LinkType.TheVariants.{Null, Ethernet, Raw, Cooked, RawIpv4, RawIpv6, CookedTwo}
use Rattle.net_udp.specs.declared.frames.link.Network.TheVariants.{Ipv6}
use Rattle.net_udp.specs.declared.frames.packet.Direction.TheVariants.{Unknown, In, Out}
use Rattle.net_udp.proofs.FramesLemmas.Tunnels.{spells, spells_ipv4}
use Rattle.net_udp.proofs.frames.laws.worked_frames.Goals as goal

pub returns-clause-tags : goal.returns-clause-tags
returns-clause-tags c = spells_ipv4 1 Ethernet (two_tags ++ ipv4_bytes ++ 0 ∷ 0 ∷ []) Unknown (ipv4_bytes ++ 0 ∷ 0 ∷ []) refl (omega arith, refl, (2048, (2, (33024, (refl, omega arith, refl), (2048, (refl, omega arith, refl), (refl, refl, refl)))), refl)) (omega arith, refl, omega arith, omega arith) (omega arith, omega arith) refl refl

pub returns-clause-cooked : goal.returns-clause-cooked
returns-clause-cooked c = spells_ipv4 113 Cooked (cooked_head ++ ipv4_bytes) Out ipv4_bytes refl (omega arith, refl, (2048, (0, (refl, refl, refl)), refl)) (omega arith, refl, omega arith, omega arith) (omega arith, omega arith) refl refl

pub returns-clause-cooked_two : goal.returns-clause-cooked_two
returns-clause-cooked_two c = spells_ipv4 276 CookedTwo (cooked_two_head ++ ipv4_bytes) In ipv4_bytes refl (omega arith, refl, (2048, (0, (refl, refl, refl)), refl)) (omega arith, refl, omega arith, omega arith) (omega arith, omega arith) refl refl

pub returns-clause-options : goal.returns-clause-options
returns-clause-options c = spells_ipv4 101 Raw ipv4_with_options Unknown ipv4_with_options refl (omega arith, refl, (refl, refl)) (omega arith, refl, omega arith, omega arith) (omega arith, omega arith) refl refl

pub returns-clause-part : goal.returns-clause-part
returns-clause-part c = spells_ipv4 228 RawIpv4 ipv4_fragment Unknown ipv4_fragment refl (omega arith, refl, (refl, refl)) (omega arith, refl, omega arith, omega arith) (omega arith, omega arith) refl refl

pub returns-clause-extensions : goal.returns-clause-extensions
returns-clause-extensions c =
    spells 229 RawIpv6 ipv6_with_extensions Unknown Ipv6 ipv6_with_extensions (record { protocol = 17; fragment = None; content = udp_bytes_of_ipv6 }) refl (omega arith, refl, (refl, refl)) (omega arith, refl) (omega arith, omega arith)
    (2, ((omega arith, omega arith, inl refl), ((omega arith, omega arith, inl refl), inl (refl, (λ e. omega arith), refl)))) refl refl

pub returns-clause-ipv6_part : goal.returns-clause-ipv6_part
returns-clause-ipv6_part c =
    spells 0 Null (null_head ++ ipv6_fragment) Unknown Ipv6 ipv6_fragment (record { protocol = 17; fragment = ipv6_part.fragment; content = ipv6_part.content }) refl (omega arith, refl, (refl, refl)) (omega arith, refl) (omega arith, omega arith)
    (0, inr (refl, omega arith, refl, refl, refl)) refl refl

pub returns-clause-another : goal.returns-clause-another
returns-clause-another c =
    spells 229 RawIpv6 ipv6_fragment_of_icmp Unknown Ipv6 ipv6_fragment_of_icmp (record { protocol = 58; fragment = ipv6_part.fragment; content = ipv6_part.content }) refl (omega arith, refl, (refl, refl)) (omega arith, refl) (omega arith, omega arith)
    (0, inr (refl, omega arith, refl, refl, refl)) refl refl

pub returns-clause-routed : goal.returns-clause-routed
returns-clause-routed c =
    spells 229 RawIpv6 (ipv6_routed 0) Unknown Ipv6 (ipv6_routed 0) (record { protocol = 17; fragment = None; content = udp_bytes_of_ipv6 }) refl (omega arith, refl, (refl, refl)) (omega arith, refl) (omega arith, omega arith)
    (1, ((omega arith, omega arith, inl refl), inl (refl, (λ e. omega arith), refl))) refl refl

pub returns-clause-old_tags : goal.returns-clause-old_tags
returns-clause-old_tags c = spells_ipv4 1 Ethernet (two_old_tags ++ ipv4_bytes) Unknown ipv4_bytes refl (omega arith, refl, (2048, (2, (33024, (refl, omega arith, refl), (2048, (refl, omega arith, refl), (refl, refl, refl)))), refl)) (omega arith, refl, omega arith, omega arith) (omega arith, omega arith) refl refl
