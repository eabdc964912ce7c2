-- A frame has one header at most that is not read, and none if a packet is read in it.
use Rattle.std.proofs.Common.{◌≡◌, ◌≢◌, ◌⊎◌, inl, inr, ℕ, zero, suc, ◌==◌, ◌&&◌, ◌||◌, not, nat_lt, Bool, true, false, List, length, drop, refl, sym, ap, ◌∙◌, subst, Option, Some, None, if◌then◌else◌}
use Rattle.std.proofs.lemmas.Bool.{false≢true, or_cases}
use Rattle.std.proofs.lemmas.Bool.Decides.{Decides-eqb}
use Rattle.std.specs.Option.{is_some}
use Rattle.net_udp.specs.Frames.{CarriesTyped, HasUnread, IsCarried, IsSealed, IsSealedIn, IsUnreadInside, LeadsOver, Linked, Packet, Reached, Reaches, ReachesInIpv4, SealedOver, SpellsFrame, SpellsLink, Stops, StopsAfter, UnreadAfter, UnreadIn, UnreadInIpv4, at, held_of, hidden_by, is_atomic, is_extension, is_of_units, is_shim, is_wrapping, hidden_part, least, pair, routed_on, sealed_by, shim_size, skipped_size, unread_by}
use Rattle.net_udp.specs.Frames.Extension.{is_hiding, is_tunnel}
use Rattle.net_udp.specs.Frames.Tag.{is_sealed}
use Rattle.net_udp.specs.declared.frames.link.LinkType.{LinkType}
use Rattle.net_udp.specs.declared.frames.link.LinkType.TheVariants.{Ethernet, Cooked, CookedTwo}
use Rattle.net_udp.specs.declared.frames.link.Network.{Network}
use Rattle.net_udp.specs.declared.frames.link.Network.TheVariants.{Ipv4, Ipv6}
use Rattle.net_udp.specs.declared.frames.unread.UnreadHeader.{UnreadHeader}
use Rattle.net_udp.specs.declared.frames.unread.UnreadHeader.TheVariants.{MacSec, Backbone, PortExtension, Trill, ServiceHeader, SwitchTag, Esp, MinimalEncapsulation, EthernetInIp, IpComp, L2tp, LabelsInIp, Mobility, HostIdentity, Shim6}
use Rattle.net_udp.proofs.FramesLemmas.Extensions.{skipped_does_not_stop}
use Rattle.net_udp.proofs.FramesLemmas.Tags.{over_one}
use Rattle.net_udp.proofs.FramesLemmas.Unread.{as_carried, no_header, no_type, of_sealed, sealed_names_none, skipped_is_read}

same_header : (u v : UnreadHeader) → Some u ≡ Some v → u ≡ v
same_header u v e = cc

same_type : (n m : ℕ) → Some n ≡ Some m → n ≡ m
same_type n m e = cc

same_link : (n m : LinkType) → Some n ≡ Some m → n ≡ m
same_link n m e = cc

same_network : (n m : Network) → Some n ≡ Some m → n ≡ m
same_network n m e = cc

-- ---- which numbers have a name

six_cases : (a b c d e f : Bool)
    → is_some (if a then Some MacSec else (if b then Some Backbone else (if c then Some PortExtension else (if d then Some Trill else (if e then Some ServiceHeader else (if f then Some SwitchTag else None)))))) ≡ ((a || b || c) || (d || e || f))
six_cases true b c d e f = refl
six_cases false true c d e f = refl
six_cases false false true d e f = refl
six_cases false false false true e f = refl
six_cases false false false false true f = refl
six_cases false false false false false true = refl
six_cases false false false false false false = refl

pub sealed_named : (type : ℕ) → is_some (sealed_by type) ≡ is_sealed type
sealed_named type = six_cases (type == 35045) (type == 35047) (type == 35135) (type == 8947) (type == 35151) (type == 56026)

seven_cases : (a b c d e f g : Bool)
    → is_some (if a then Some Esp else (if b then Some MinimalEncapsulation else (if c || g then Some EthernetInIp else (if d then Some IpComp else (if e then Some L2tp else (if f then Some LabelsInIp else None)))))) ≡ (a || b || c || d || e || f || g)
seven_cases true b c d e f g = refl
seven_cases false true c d e f g = refl
seven_cases false false true d e f g = refl
seven_cases false false false true e f true = refl
seven_cases false false false true e f false = refl
seven_cases false false false false true f true = refl
seven_cases false false false false true f false = refl
seven_cases false false false false false true true = refl
seven_cases false false false false false true false = refl
seven_cases false false false false false false true = refl
seven_cases false false false false false false false = refl

pub hidden_named : (protocol : ℕ) → is_some (hidden_by protocol) ≡ is_hiding protocol
hidden_named n = seven_cases (n == 50) (n == 55) (n == 97) (n == 108) (n == 115) (n == 137) (n == 143)

second_of : (a b c : Bool) → b ≡ true → (a || b || c) ≡ true
second_of true b c e = refl
second_of false true c e = refl
second_of false false c e = absurd (false≢true e)

last_of : (a b : Bool) → b ≡ true → (a || b) ≡ true
last_of true b e = refl
last_of false b e = e

hides : (n : ℕ) (u : UnreadHeader) → hidden_by n ≡ Some u → is_hiding n ≡ true
hides n u e = sym (hidden_named n) ∙ ap is_some e

wraps : (n : ℕ) (u : UnreadHeader) → hidden_by n ≡ Some u → is_wrapping n ≡ true
wraps n u e = second_of (is_tunnel n) (is_hiding n) (n == 51) (hides n u e)

sealed_is_shim : (type : ℕ) (bytes : List ℕ) (u : UnreadHeader) → sealed_by type ≡ Some u → is_shim type bytes ≡ true
sealed_is_shim type bytes = of_sealed (λ n. is_shim n bytes ≡ true) refl refl refl refl refl refl type

-- ---- behind a type

sealed_once : (shims others type : ℕ) (bytes : List ℕ) (u v : UnreadHeader) → SealedOver shims type bytes u → SealedOver others type bytes v → u ≡ v
sealed_once zero zero type bytes u v p q = same_header u v (sym p ∙ q)
sealed_once zero (suc others) type bytes u v p q = absurd (no_type q.0 (sym (sealed_names_none type bytes u p) ∙ q.1.2))
sealed_once (suc shims) zero type bytes u v p q = absurd (no_type p.0 (sym (sealed_names_none type bytes v q) ∙ p.1.2))
sealed_once (suc shims) (suc others) type bytes u v p q =
    sealed_once shims others q.0 (drop (shim_size type) bytes) u v (subst (λ (n : ℕ). SealedOver shims n (drop (shim_size type) bytes) u) (over_one type bytes p.0 q.0 p.1 q.1) p.2) q.2

sealed_leads_nowhere : (shims others type : ℕ) (bytes : List ℕ) (u : UnreadHeader) (last : ℕ) (content : List ℕ) → SealedOver shims type bytes u → LeadsOver others type bytes last content → ⊥
sealed_leads_nowhere zero zero type bytes u last content p q = false≢true (sym q.0 ∙ sealed_is_shim type bytes u p)
sealed_leads_nowhere zero (suc others) type bytes u last content p q = no_type q.0 (sym (sealed_names_none type bytes u p) ∙ q.1.2)
sealed_leads_nowhere (suc shims) zero type bytes u last content p q = false≢true (sym q.0 ∙ p.1.0)
sealed_leads_nowhere (suc shims) (suc others) type bytes u last content p q =
    sealed_leads_nowhere shims others q.0 (drop (shim_size type) bytes) u last content (subst (λ (n : ℕ). SealedOver shims n (drop (shim_size type) bytes) u) (over_one type bytes p.0 q.0 p.1 q.1) p.2) q.2

sealed_in_once : (link : LinkType) (frame : List ℕ) (u v : UnreadHeader) → IsSealedIn link frame u → IsSealedIn link frame v → u ≡ v
sealed_in_once link frame u v (type, _, is, p) (other, _, as_well, q) =
    sealed_once p.0 q.0 other (drop (least link) frame) u v (subst (λ (n : ℕ). SealedOver p.0 n (drop (least link) frame) u) (same_type type other (sym is ∙ as_well)) p.1) q.1

typed_apart : (type kind : ℕ) (after : List ℕ) (u : UnreadHeader) (c : Linked) → Some kind ≡ Some type → IsSealed type after u → CarriesTyped kind after c → ⊥
typed_apart type kind after u c is p (last, q, _) =
    sealed_leads_nowhere p.0 q.0 kind after u last c.content (subst (λ (n : ℕ). SealedOver p.0 n after u) (sym (same_type kind type is)) p.1) q.1

-- what is not read on the frame's link carries nothing
pub sealed_carries_none : (link : LinkType) (frame : List ℕ) (u : UnreadHeader) (c : Linked) → IsSealedIn link frame u → SpellsLink link frame c → ⊥
sealed_carries_none Ethernet frame u c (type, _, is, p) s = typed_apart type (pair frame 12) (drop 14 frame) u c is p s.2
sealed_carries_none Cooked frame u c (type, _, is, p) s = typed_apart type (pair frame 14) (drop 16 frame) u c is p s.2
sealed_carries_none CookedTwo frame u c (type, _, is, p) s = typed_apart type (pair frame 0) (drop 20 frame) u c is p s.2
sealed_carries_none _ frame u c (type, _, is, p) s = no_type type is

-- ---- in a packet

unread_once : (headers others next : ℕ) (bytes : List ℕ) (u v : UnreadHeader) → UnreadAfter headers next bytes u → UnreadAfter others next bytes v → u ≡ v
unread_once zero zero next bytes u v p q = same_header u v (sym p ∙ q)
unread_once zero (suc others) next bytes u v p q = absurd (no_header u (sym (skipped_is_read next bytes q.0) ∙ p))
unread_once (suc headers) zero next bytes u v p q = absurd (no_header v (sym (skipped_is_read next bytes p.0) ∙ q))
unread_once (suc headers) (suc others) next bytes u v p q = unread_once headers others (at bytes 0) (drop (skipped_size next bytes) bytes) u v p.1 q.1

in_ipv4_once : (bytes content : List ℕ) (u v : UnreadHeader) → UnreadInIpv4 bytes content u → UnreadInIpv4 bytes content v → u ≡ v
in_ipv4_once bytes content u v (inl p) (inl q) = same_header u v (sym p ∙ q)
in_ipv4_once bytes content u v (inl p) (inr (is, _, _)) = absurd (no_header u (ap hidden_by (sym is) ∙ p))
in_ipv4_once bytes content u v (inr (is, _, _)) (inl q) = absurd (no_header v (ap hidden_by (sym is) ∙ q))
in_ipv4_once bytes content u v (inr (_, _, p)) (inr (_, _, q)) = unread_once p.0 q.0 51 content u v p.1 q.1

in_ip_once : (network : Network) (bytes : List ℕ) (u v : UnreadHeader) → UnreadIn network bytes u → UnreadIn network bytes v → u ≡ v
in_ip_once Ipv4 bytes u v p q = in_ipv4_once bytes (held_of Ipv4 bytes) u v p q
in_ip_once Ipv6 bytes u v p q = unread_once p.0 q.0 (at bytes 6) (held_of Ipv6 bytes) u v p.1 q.1

inside_once : (link : LinkType) (frame : List ℕ) (u v : UnreadHeader) → IsUnreadInside link frame u → IsUnreadInside link frame v → u ≡ v
inside_once link frame u v p (c, network, carried, is, q) = in_ip_once network c.content u v (as_carried link frame c network u carried is p).1 q.1

pub header_once : (number : ℕ) (frame : List ℕ) (u v : UnreadHeader) → HasUnread number frame u → HasUnread number frame v → u ≡ v
header_once number frame u v (link, named, p) (other, called, q) = on_link p (subst (λ (l : LinkType). IsSealedIn l frame v ⊎ IsUnreadInside l frame v) (same_link other link (sym called ∙ named)) q)
  where
    on_link : IsSealedIn link frame u ⊎ IsUnreadInside link frame u → IsSealedIn link frame v ⊎ IsUnreadInside link frame v → u ≡ v
    on_link (inl s) (inl t) = sealed_in_once link frame u v s t
    on_link (inl s) (inr (_, _, (outer, spells, _), _, _)) = absurd (sealed_carries_none link frame u outer s spells)
    on_link (inr (_, _, (outer, spells, _), _, _)) (inl t) = absurd (sealed_carries_none link frame v outer t spells)
    on_link (inr s) (inr t) = inside_once link frame u v s t

-- ---- nothing is reached behind it

-- of two cases the one that holds
choose : (b : Bool) (x rest : Option UnreadHeader) (u : UnreadHeader) (P : Type 0) → (b ≡ true → P) → (rest ≡ Some u → P) → (if b then x else rest) ≡ Some u → P
choose true x rest u P now later e = now refl
choose false x rest u P now later e = later e

-- it is an extension header
extends : (next : ℕ) (bytes : List ℕ) (u : UnreadHeader) → next ≢ 44 → unread_by next bytes ≡ Some u → is_extension next ≡ true
extends next bytes u other =
    choose (next == 43) (routed_on bytes) _ u P (is 43 refl)
    (choose (next == 44) (hidden_part bytes) _ u P (λ e. absurd (other ((Decides-eqb next 44).0 e)))
    (choose (next == 135) (Some Mobility) _ u P (is 135 refl)
    (choose (next == 139) (Some HostIdentity) _ u P (is 139 refl)
    (choose (next == 140) (Some Shim6) (hidden_by next) u P (is 140 refl)
    (λ e. last_of (next == 0 || next == 43 || next == 60 || next == 51 || next == 135 || next == 139 || next == 140) (is_hiding next) (hides next u e))))))
  where
    P : Type 0
    P = is_extension next ≡ true

    is : (n : ℕ) → is_extension n ≡ true → (next == n) ≡ true → is_extension next ≡ true
    is n known e = ap is_extension ((Decides-eqb next n).0 e) ∙ known

part_hides : (long whole : Bool) (h : Option UnreadHeader) (u : UnreadHeader) → (if long && not whole then h else None) ≡ Some u → h ≡ Some u
part_hides true false h u e = e
part_hides true true h u e = absurd (no_header u e)
part_hides false whole h u e = absurd (no_header u e)

read_apart : (units wrapping : Bool) → wrapping ≡ true → (units && not wrapping) ≡ true → ⊥
read_apart true true w e = false≢true e
read_apart false true w e = false≢true e
read_apart units false w e = false≢true w

stops_apart : (next : ℕ) (bytes : List ℕ) (u : UnreadHeader) (r : Reached) → unread_by next bytes ≡ Some u → Stops next bytes r → ⊥
stops_apart next bytes u r e (inl (plain, other, _)) = false≢true (sym plain ∙ extends next bytes u other e)
stops_apart next bytes u r e (inr (is_part, _, _, read, _)) =
    let hidden : hidden_by (at bytes 0) ≡ Some u = part_hides (nat_lt 7 (length bytes)) (is_atomic bytes) (hidden_by (at bytes 0)) u (sym (ap (λ n. unread_by n bytes) is_part) ∙ e) in
    read_apart (is_of_units bytes) (is_wrapping (at bytes 0)) (wraps (at bytes 0) u hidden) read

reaches_apart : (headers others next : ℕ) (bytes : List ℕ) (u : UnreadHeader) (r : Reached) → UnreadAfter headers next bytes u → StopsAfter others next bytes r → ⊥
reaches_apart zero zero next bytes u r p q = stops_apart next bytes u r p q
reaches_apart zero (suc others) next bytes u r p q = no_header u (sym (skipped_is_read next bytes q.0) ∙ p)
reaches_apart (suc headers) zero next bytes u r p q = skipped_does_not_stop next bytes r p.0 q
reaches_apart (suc headers) (suc others) next bytes u r p q = reaches_apart headers others (at bytes 0) (drop (skipped_size next bytes) bytes) u r p.1 q.1

-- what holds of each protocol that hides the rest
of_hidden : (P : ℕ → Type 0) → P 50 → P 55 → P 97 → P 143 → P 108 → P 115 → P 137 → (n : ℕ) (u : UnreadHeader) → hidden_by n ≡ Some u → P n
of_hidden P one two three four five six seven n u =
    choose (n == 50) (Some Esp) _ u (P n) (is 50 one)
    (choose (n == 55) (Some MinimalEncapsulation) _ u (P n) (is 55 two)
    (choose (n == 97 || n == 143) (Some EthernetInIp) _ u (P n) (λ e. elim (or_cases (n == 97) (n == 143) e) [ inl first ↦ is 97 three first | inr second ↦ is 143 four second ])
    (choose (n == 108) (Some IpComp) _ u (P n) (is 108 five)
    (choose (n == 115) (Some L2tp) _ u (P n) (is 115 six)
    (choose (n == 137) (Some LabelsInIp) None u (P n) (is 137 seven) (λ e. absurd (no_header u e)))))))
  where
    is : (m : ℕ) → P m → (n == m) ≡ true → P n
    is m known e = subst P (sym ((Decides-eqb n m).0 e)) known

names_too : (n : ℕ) (bytes : List ℕ) (u : UnreadHeader) → hidden_by n ≡ Some u → unread_by n bytes ≡ Some u
names_too n bytes u e = of_hidden (λ m. unread_by m bytes ≡ hidden_by m) refl refl refl refl refl refl refl n u e ∙ e

ipv4_apart : (bytes content : List ℕ) (u : UnreadHeader) (r : Reached) → UnreadInIpv4 bytes content u → ReachesInIpv4 bytes content r → ⊥
ipv4_apart bytes content u r (inl p) (inl (plain, _)) = false≢true (sym plain ∙ wraps (at bytes 9) u p)
ipv4_apart bytes content u r (inl p) (inr (_, _, q)) = reaches_apart zero q.0 (at bytes 9) content u r (names_too (at bytes 9) content u p) q.1
ipv4_apart bytes content u r (inr (is, _, _)) (inl (plain, _)) = false≢true (sym plain ∙ ap is_wrapping is)
ipv4_apart bytes content u r (inr (is, _, p)) (inr (_, _, q)) = reaches_apart p.0 q.0 51 content u r p.1 (subst (λ (n : ℕ). StopsAfter q.0 n content r) is q.1)

pub ip_apart : (network : Network) (bytes : List ℕ) (u : UnreadHeader) (r : Reached) → UnreadIn network bytes u → Reaches network bytes r → ⊥
ip_apart Ipv4 bytes u r p q = ipv4_apart bytes (held_of Ipv4 bytes) u r p q
ip_apart Ipv6 bytes u r p q = reaches_apart p.0 q.0 (at bytes 6) (held_of Ipv6 bytes) u r p.1 q.1

pub read_has_none : (number : ℕ) (frame : List ℕ) (u : UnreadHeader) (p : Packet) → HasUnread number frame u → SpellsFrame number frame p → ⊥
read_has_none number frame u p (link, named, has) (c, network, (other, called, carried), is, s) =
    let moved : IsCarried link frame c = subst (λ (l : LinkType). IsCarried l frame c) (same_link other link (sym called ∙ named)) carried in
    elim has [
      | inl sealed ↦ sealed_carries_none link frame u moved.0 sealed moved.1
      | inr inside ↦ ip_apart network c.content u s.upper (as_carried link frame c network u moved is inside).1 s.reaches
    ]
