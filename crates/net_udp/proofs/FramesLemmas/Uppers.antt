-- What a packet carries.
use Rattle.std.proofs.Common.{◌≡◌, ◌<◌, ◌≤◌, inl, inr, ℕ, ◌-◌, List, length, length-drop, length-take, drop, sym, ap, subst, ◌∙◌, arith, Option, Some, None, MatchOption, refl, true, false}
use Rattle.std.proofs.lemmas.Bool.{false≢true}
use Rattle.net_udp.specs.Frames.{at, Reached, ReachesOver, Reaches, ReachesInIpv4, held_of, is_wrapping, reached, HasHeader, SpellsIp, TellsHosts, leads_on, may_be_udp, packet_of, size_of, total_of}
use Rattle.net_udp.specs.Frames.Ip.{IsWhole, part_of}
use Rattle.net_udp.specs.declared.frames.packet.Fragment.{Fragment}
use Rattle.std.specs.Option.{is_some}
use Rattle.net_udp.proofs.FramesLemmas.Extensions.{reaches_one, within}
use Rattle.net_udp.specs.declared.frames.extension.Upper.{Upper}
use Rattle.net_udp.specs.declared.frames.link.Network.TheVariants.{Ipv4, Ipv6}
use Rattle.net_udp.specs.declared.frames.packet.Direction.{Direction}
use Rattle.net_udp.specs.declared.frames.link.Network.{Network}

-- over the extension headers of IPv6
pub over_extensions : (network : Network) (bytes content : List ℕ) (r : Option Upper) → network ≡ Ipv6 → content ≡ held_of network bytes
    → MatchOption r ((x : Reached) → ReachesOver (at bytes 6) content x → ⊥) (λ found. ReachesOver (at bytes 6) content (reached found))
    → MatchOption r ((x : Reached) → Reaches network bytes x → ⊥) (λ found. Reaches network bytes (reached found))
over_extensions network bytes content r is held answers =
    let Answers : List ℕ → Type 0 = λ x. MatchOption r ((y : Reached) → ReachesOver (at bytes 6) x y → ⊥) (λ found. ReachesOver (at bytes 6) x (reached found)) in
    let six = subst (λ (n : Network). content ≡ held_of n bytes) is held in
    subst (λ (n : Network). MatchOption r ((x : Reached) → Reaches n bytes x → ⊥) (λ found. Reaches n bytes (reached found))) (sym is) (subst Answers six answers)

-- what the bytes of a packet spell, part by part
pub spells_ip : (direction : Direction) (network : Network) (bytes : List ℕ) (upper : Reached) → HasHeader network bytes → IsWhole network bytes → Reaches network bytes upper
    → may_be_udp network upper ≡ true → SpellsIp direction network bytes (packet_of direction network bytes upper)
spells_ip direction network bytes upper header whole reaches udp = record { header = header; whole = whole; upper = upper; reaches = reaches; udp = udp; packet = refl }

-- ---- one thing is reached

in_ipv4_one : (bytes content : List ℕ) (r s : Reached) → ReachesInIpv4 bytes content r → ReachesInIpv4 bytes content s → r ≡ s
in_ipv4_one bytes content r s (inl (_, is)) (inl (_, as_well)) = is ∙ sym as_well
in_ipv4_one bytes content r s (inl (plain, _)) (inr (wraps, _, _)) = absurd (false≢true (sym plain ∙ wraps))
in_ipv4_one bytes content r s (inr (wraps, _, _)) (inl (plain, _)) = absurd (false≢true (sym plain ∙ wraps))
in_ipv4_one bytes content r s (inr (_, _, p)) (inr (_, _, q)) = reaches_one (at bytes 9) content r s p q

pub upper_one : (network : Network) (bytes : List ℕ) (r s : Reached) → Reaches network bytes r → Reaches network bytes s → r ≡ s
upper_one Ipv4 bytes r s p q = in_ipv4_one bytes (held_of Ipv4 bytes) r s p q
upper_one Ipv6 bytes r s p q = reaches_one (at bytes 6) (held_of Ipv6 bytes) r s p q

-- ---- what is reached is shorter than the packet

in_ipv4_within : (bytes content : List ℕ) (r : Reached) → ReachesInIpv4 bytes content r → length r.content ≤ length content
in_ipv4_within bytes content r (inl (_, is)) = omega (arith, ap (λ (x : Reached). length x.content) is)
in_ipv4_within bytes content r (inr (_, _, p)) = within p.0 (at bytes 9) content r p.1

pub shorter : (network : Network) (bytes : List ℕ) (r : Reached) → HasHeader network bytes → Reaches network bytes r → length r.content < length bytes
shorter Ipv4 bytes r header reaches =
    let less = in_ipv4_within bytes (held_of Ipv4 bytes) r reaches in
    let held : length (held_of Ipv4 bytes) ≤ length (drop (size_of Ipv4 bytes) bytes) = omega (arith, length-take (total_of Ipv4 bytes - size_of Ipv4 bytes) (drop (size_of Ipv4 bytes) bytes)) in
    omega (arith, less, held, length-drop (size_of Ipv4 bytes) bytes, header.0, header.2, header.3)
shorter Ipv6 bytes r header reaches =
    let less = within reaches.0 (at bytes 6) (held_of Ipv6 bytes) r reaches.1 in
    let held : length (held_of Ipv6 bytes) ≤ length (drop 40 bytes) = omega (arith, length-take (total_of Ipv6 bytes - 40) (drop 40 bytes)) in
    omega (arith, less, held, length-drop 40 bytes, header.0)

-- over authentication, in IPv4
pub over_wrapped : (bytes content : List ℕ) (r : Option Upper) → is_wrapping (at bytes 9) ≡ true → part_of bytes ≡ None
    → MatchOption r ((x : Reached) → ReachesOver (at bytes 9) content x → ⊥) (λ found. ReachesOver (at bytes 9) content (reached found))
    → MatchOption r ((x : Reached) → ReachesInIpv4 bytes content x → ⊥) (λ found. ReachesInIpv4 bytes content (reached found))
over_wrapped bytes content None wraps whole none = λ x s. elim s [ inl plain ↦ false≢true (sym plain.0 ∙ wraps) | inr over ↦ none x over.2 ]
over_wrapped bytes content (Some found) wraps whole is = inr (wraps, whole, is)

pub none_if : (x : Option Fragment) → is_some x ≡ false → x ≡ None
none_if None e = refl
none_if (Some part) e = absurd (false≢true (sym e))

pub in_ipv4 : (network : Network) (bytes content : List ℕ) (r : Option Upper) → network ≡ Ipv4 → content ≡ held_of network bytes
    → MatchOption r ((x : Reached) → ReachesInIpv4 bytes content x → ⊥) (λ found. ReachesInIpv4 bytes content (reached found))
    → MatchOption r ((x : Reached) → Reaches network bytes x → ⊥) (λ found. Reaches network bytes (reached found))
in_ipv4 network bytes content r is held answers =
    let Answers : List ℕ → Type 0 = λ x. MatchOption r ((y : Reached) → ReachesInIpv4 bytes x y → ⊥) (λ found. ReachesInIpv4 bytes x (reached found)) in
    let four = subst (λ (n : Network). content ≡ held_of n bytes) is held in
    subst (λ (n : Network). MatchOption r ((x : Reached) → Reaches n bytes x → ⊥) (λ found. Reaches n bytes (reached found))) (sym is) (subst Answers four answers)

-- a fragment that leads on tells no hosts
pub no_hosts : (network : Network) (bytes : List ℕ) (r : Reached) → Reaches network bytes r → leads_on r ≡ true → TellsHosts network bytes → ⊥
no_hosts network bytes r reaches leads (header, (s, again, plain)) = false≢true (sym plain ∙ ap leads_on (upper_one network bytes s r again reaches) ∙ leads)
