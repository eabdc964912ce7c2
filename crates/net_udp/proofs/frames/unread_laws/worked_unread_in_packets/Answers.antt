use Rattle.std.proofs.Common.{ℕ, inl, inr, List, refl, arith}
use Rattle.net_udp.specs.Frames.{HasHeader, HasUnread, UnreadIn, enciphered, enciphered_authenticated, enciphered_part, ipv6_routed, mobile}
use Rattle.net_udp.specs.declared.frames.link.LinkType.TheVariants.{RawIpv4, RawIpv6}
use Rattle.net_udp.specs.declared.frames.link.Network.TheVariants.{Ipv4, Ipv6}
use Rattle.net_udp.specs.declared.frames.unread.UnreadHeader.{UnreadHeader}
use Rattle.net_udp.proofs.FramesLemmas.Opened.{of_ip}
use Rattle.net_udp.proofs.FramesLemmas.Tunnels.{nothing_reached}
use Rattle.net_udp.proofs.FramesLemmas.UnreadOnce.{ip_apart}
use Rattle.net_udp.proofs.frames.unread_laws.worked_unread_in_packets.Goals as goal

-- a packet in which nothing is reached has what is named in it
in_ipv4 : (bytes : List ℕ) (u : UnreadHeader) → HasHeader Ipv4 bytes → UnreadIn Ipv4 bytes u → HasUnread 228 bytes u
in_ipv4 bytes u header has =
    (RawIpv4, refl, inr (of_ip Ipv4 bytes, Ipv4, nothing_reached RawIpv4 bytes (of_ip Ipv4 bytes) Ipv4 (omega arith, refl, (refl, refl)) refl (λ r. ip_apart Ipv4 bytes u r has), refl, (header, has)))

in_ipv6 : (bytes : List ℕ) (u : UnreadHeader) → HasHeader Ipv6 bytes → UnreadIn Ipv6 bytes u → HasUnread 229 bytes u
in_ipv6 bytes u header has =
    (RawIpv6, refl, inr (of_ip Ipv6 bytes, Ipv6, nothing_reached RawIpv6 bytes (of_ip Ipv6 bytes) Ipv6 (omega arith, refl, (refl, refl)) refl (λ r. ip_apart Ipv6 bytes u r has), refl, (header, has)))

pub returns-clause-esp : goal.returns-clause-esp
returns-clause-esp c = in_ipv4 enciphered _ (omega arith, refl, omega arith, omega arith) (inl refl)

pub returns-clause-part : goal.returns-clause-part
returns-clause-part c = in_ipv4 enciphered_part _ (omega arith, refl, omega arith, omega arith) (inl refl)

pub returns-clause-behind : goal.returns-clause-behind
returns-clause-behind c = in_ipv4 enciphered_authenticated _ (omega arith, refl, omega arith, omega arith) (inr (refl, refl, (1, ((omega arith, omega arith, inl refl), refl))))

pub returns-clause-mobile : goal.returns-clause-mobile
returns-clause-mobile c = in_ipv6 mobile _ (omega arith, refl) (1, ((omega arith, omega arith, inl refl), refl))

pub returns-clause-routed : goal.returns-clause-routed
returns-clause-routed c = in_ipv6 (ipv6_routed 1) _ (omega arith, refl) (0, refl)
