-- Tunnels, one in another.
use Rattle.std.proofs.Common.{◌≡◌, ◌↔◌, inl, inr, ℕ, zero, suc, ◌-◌, ◌<◌, ◌≤◌, ◌==◌, Bool, true, false, List, length, length-drop, length-take, drop, refl, sym, ap, subst, ◌∙◌, arith, Option, Some, None, MatchOption}
use Rattle.std.proofs.lemmas.Bool.{false≢true}
use Rattle.net_udp.specs.Frames.{CarriesTyped, Linked, Reached, HasHeader, Reaches, SpellsFrame, SpellsLink, IsCarried, IsInGre, IsInUdp, IsInside, IsLinked, IsMirrored, IsOfType, IsTunnel, LeadsIn, LeadsInOver, at, gre, gre_size, has_number, is_gre_read, is_mirror, is_mirror_read, is_opened, is_type_in_gre, is_wrapping, held_of, linked, mirror_size, over_udp_size, over_udp_type, payload_of, reached, link_named, may_be_udp, packet_of, pair, udp}
use Rattle.net_udp.specs.Frames.Ip.{IsWhole, part_of}
use Rattle.net_udp.specs.declared.frames.link.LinkType.{LinkType}
use Rattle.net_udp.specs.declared.frames.link.Network.{Network}
use Rattle.net_udp.specs.declared.frames.link.Network.TheVariants.{Ipv4}
use Rattle.net_udp.specs.declared.frames.packet.Direction.{Direction}
use Rattle.net_udp.specs.declared.frames.extension.Upper.{Upper}
use Rattle.net_udp.specs.declared.frames.link.LinkContent.{LinkContent}
use Rattle.net_udp.proofs.FramesLemmas.Links.{AnswersTyped, Same, as_read, link_one, typed_one}
use Rattle.net_udp.proofs.FramesLemmas.Tags as tags
use Rattle.net_udp.proofs.FramesLemmas.Uppers.{upper_one, shorter, spells_ip}

same_network : (n m : Network) → Some n ≡ Some m → n ≡ m
same_network n m e = cc

-- a packet is that of one tunnel
tunnel_one : (network : Network) (bytes : List ℕ) (r s : Reached) → IsTunnel network bytes r → IsTunnel network bytes s → r ≡ s
tunnel_one network bytes r s p q = upper_one network bytes r s p.1 q.1

-- one thing stands behind a type in GRE
of_type_one : (type : ℕ) (is_counted : Bool) (bytes : List ℕ) (c d : Linked) → IsOfType type is_counted bytes c → IsOfType type is_counted bytes d → Same c d
of_type_one type is_counted bytes c d (inl (_, _, p)) (inl (_, _, q)) = typed_one type bytes c d p q
of_type_one type is_counted bytes c d (inl (other, _, _)) (inr q) = absurd (false≢true (sym other ∙ q.mirror))
of_type_one type is_counted bytes c d (inr p) (inl (other, _, _)) = absurd (false≢true (sym other ∙ p.mirror))
of_type_one type is_counted bytes c d (inr p) (inr q) = typed_one 25944 (drop (mirror_size type is_counted bytes) bytes) c d p.carries q.carries

-- GRE is not UDP
apart : (n : ℕ) → n ≡ gre → n ≡ udp → ⊥
apart n is as_well = omega (arith, is, as_well)

-- and one thing stands in it
inside_one : (r : Reached) (c d : Linked) → IsInside r c → IsInside r d → Same c d
inside_one r c d (inl (_, _, network, content)) (inl (_, _, other, more)) = (network ∙ sym other, content ∙ sym more)
inside_one r c d (inl (other, _, _, _)) (inr (inl (is, _))) = absurd (other is)
inside_one r c d (inl (_, other, _, _)) (inr (inr (is, _))) = absurd (other is)
inside_one r c d (inr (inl (is, _))) (inl (other, _, _, _)) = absurd (other is)
inside_one r c d (inr (inr (is, _))) (inl (_, other, _, _)) = absurd (other is)
inside_one r c d (inr (inl (_, p))) (inr (inl (_, q))) = of_type_one (pair r.content 2) (has_number r.content) (drop (gre_size r.content) r.content) c d p.carries q.carries
inside_one r c d (inr (inl (is, _))) (inr (inr (as_well, _))) = absurd (apart r.protocol is as_well)
inside_one r c d (inr (inr (as_well, _))) (inr (inl (is, _))) = absurd (apart r.protocol is as_well)
inside_one r c d (inr (inr (_, p))) (inr (inr (_, q))) = typed_one (over_udp_type r.content) (drop (over_udp_size r.content) (payload_of r.content)) c d p.carries q.carries

next_one : (outer : Linked) (network other : Network) (r s : Reached) (c d : Linked) → outer.network ≡ Some network → outer.network ≡ Some other → IsTunnel network outer.content r → IsTunnel other outer.content s
    → IsInside r c → IsInside s d → c.direction ≡ outer.direction → d.direction ≡ outer.direction → c ≡ d
next_one outer network other r s c d is as_well p q stands rests way same_way =
    let one : other ≡ network = same_network other network (sym as_well ∙ is) in
    let reached : s ≡ r = tunnel_one network outer.content s r (subst (λ (n : Network). IsTunnel n outer.content s) one q) p in
    let same = inside_one r c d stands (subst (λ (x : Reached). IsInside x d) reached rests) in
    let direction : c.direction ≡ d.direction = way ∙ sym same_way in
    λ i. record { direction = direction i; network = same.0 i; content = same.1 i }

one : (tunnels others : ℕ) (outer c d : Linked) → LeadsInOver tunnels outer c → LeadsInOver others outer d → c ≡ d
one zero zero outer c d p q = p.1 ∙ sym q.1
one zero (suc others) outer c d p (network, r, next, is, tunnel, _, _, _) = absurd (p.0 network r is tunnel)
one (suc tunnels) zero outer c d (network, r, next, is, tunnel, _, _, _) q = absurd (q.0 network r is tunnel)
one (suc tunnels) (suc others) outer c d (network, r, next, is, tunnel, stands, way, p) (other, s, after, as_well, again, rests, same_way, q) =
    let same = next_one outer network other r s next after is as_well tunnel again stands rests way same_way in
    one tunnels others after c d (subst (λ (x : Linked). LeadsInOver tunnels x c) same p) q

-- a frame of a link carries one thing
pub carried_one : (link : LinkType) (frame : List ℕ) (c d : Linked) → IsCarried link frame c → IsCarried link frame d → c ≡ d
carried_one link frame c d (outer, spells, (tunnels, p)) (other, again, (others, q)) =
    one tunnels others other c d (subst (λ (x : Linked). LeadsInOver tunnels x c) (link_one link frame outer other spells again) p) q

pub linked_one : (number : ℕ) (frame : List ℕ) (c d : Linked) → IsLinked number frame c → IsLinked number frame d → c ≡ d
linked_one number frame c d (link, named, p) (other, called, q) =
    let same : link ≡ other = cc in
    carried_one other frame c d (subst (λ (l : LinkType). IsCarried l frame c) same p) q

-- ---- what is in no tunnel

-- a packet that carries something else is no tunnel's
pub another_protocol : (network : Network) (bytes : List ℕ) (r : Reached) → Reaches network bytes r → is_opened r ≡ false → (s : Reached) → IsTunnel network bytes s → ⊥
another_protocol network bytes r reaches plain s tunnel = false≢true (sym plain ∙ ap is_opened (upper_one network bytes r s reaches tunnel.1) ∙ tunnel.2)

pub no_tunnel : (c : Linked) (network : Network) (r : Reached) → c.network ≡ Some network → Reaches network c.content r → is_opened r ≡ false
    → (other : Network) (s : Reached) → c.network ≡ Some other → IsTunnel other c.content s → ⊥
no_tunnel c network r is reaches plain other s as_well tunnel =
    another_protocol network c.content r reaches plain s (subst (λ (n : Network). IsTunnel n c.content s) (same_network other network (sym as_well ∙ is)) tunnel)

pub plainly : (link : LinkType) (frame : List ℕ) (c : Linked) (network : Network) (r : Reached) → SpellsLink link frame c → c.network ≡ Some network → Reaches network c.content r → is_opened r ≡ false
    → IsCarried link frame c
plainly link frame c network r spells is reaches plain = (c, spells, (zero, (no_tunnel c network r is reaches plain, refl)))

-- nothing is reached in it, so that nobody knows of a tunnel
pub nothing_reached : (link : LinkType) (frame : List ℕ) (c : Linked) (network : Network) → SpellsLink link frame c → c.network ≡ Some network → ((r : Reached) → Reaches network c.content r → ⊥) → IsCarried link frame c
nothing_reached link frame c network spells is none = (c, spells, (zero, (bare, refl)))
  where
    bare : (other : Network) (s : Reached) → c.network ≡ Some other → IsTunnel other c.content s → ⊥
    bare other s as_well tunnel =
        let one : other ≡ network = same_network other network (sym as_well ∙ is) in
        none s (subst (λ (n : Network). Reaches n c.content s) one tunnel.1)

pub without_ip : (c : Linked) → c.network ≡ None → LeadsIn c c
without_ip c is = (zero, (bare, refl))
  where
    bare : (other : Network) (s : Reached) → c.network ≡ Some other → IsTunnel other c.content s → ⊥
    bare other s as_well tunnel = let bad : None ≡ Some other = sym is ∙ as_well in cc

pub no_ip : (link : LinkType) (frame : List ℕ) (c : Linked) → SpellsLink link frame c → c.network ≡ None → IsCarried link frame c
no_ip link frame c spells is = (c, spells, without_ip c is)

-- what is not spelled by the link is not carried
pub not_linked : (link : LinkType) (frame : List ℕ) → ((c : Linked) → SpellsLink link frame c → ⊥) → (c : Linked) → IsCarried link frame c → ⊥
not_linked link frame none c (outer, spells, _) = none outer spells

-- ---- the loop's step

-- what leads in from a tunnel's packet leads in from what stands in it
pub step : (outer next inner : Linked) (network : Network) (r : Reached) → outer.network ≡ Some network → IsTunnel network outer.content r → IsInside r next → next.direction ≡ outer.direction
    → LeadsIn outer inner ↔ LeadsIn next inner
step outer next inner network r is tunnel stands way = ((λ s. forth s.0 s.1), λ s. (suc s.0, (network, r, next, is, tunnel, stands, way, s.1)))
  where
    forth : (tunnels : ℕ) → LeadsInOver tunnels outer inner → LeadsIn next inner
    forth zero p = absurd (p.0 network r is tunnel)
    forth (suc tunnels) (other, s, after, as_well, again, rests, same_way, p) =
        (tunnels, subst (λ (x : Linked). LeadsInOver tunnels x inner) (next_one outer other network s r after next as_well is again tunnel rests stands same_way way) p)

-- nothing leads in over a tunnel in which nothing stands
pub none_inside : (outer inner : Linked) (network : Network) (r : Reached) → outer.network ≡ Some network → IsTunnel network outer.content r → ((c : Linked) → IsInside r c → ⊥) → LeadsIn outer inner → ⊥
none_inside outer inner network r is tunnel none s = no s.0 s.1
  where
    no : (tunnels : ℕ) → LeadsInOver tunnels outer inner → ⊥
    no zero p = p.0 network r is tunnel
    no (suc tunnels) (other, t, after, as_well, again, rests, _, _) =
        let one : other ≡ network = same_network other network (sym as_well ∙ is) in
        let same : t ≡ r = tunnel_one network outer.content t r (subst (λ (n : Network). IsTunnel n outer.content t) one again) tunnel in
        none after (subst (λ (x : Reached). IsInside x after) same rests)

-- what a type leads to is no longer
typed_within : (type : ℕ) (bytes : List ℕ) (c : Linked) → CarriesTyped type bytes c → length c.content ≤ length bytes
typed_within type bytes c carries = let led = carries.1 in tags.within led.0 type bytes carries.0 c.content led.1

of_type_within : (type : ℕ) (is_counted : Bool) (bytes : List ℕ) (c : Linked) → IsOfType type is_counted bytes c → length c.content ≤ length bytes
of_type_within type is_counted bytes c (inl (_, _, carries)) = typed_within type bytes c carries
of_type_within type is_counted bytes c (inr p) =
    let within = typed_within 25944 (drop (mirror_size type is_counted bytes) bytes) c p.carries in
    omega (arith, within, length-drop (mirror_size type is_counted bytes) bytes)

-- what stands in a tunnel's packet is shorter than it
pub inside_shorter : (network : Network) (bytes : List ℕ) (r : Reached) (c : Linked) → IsTunnel network bytes r → IsInside r c → length c.content < length bytes
inside_shorter network bytes r c tunnel (inl (_, _, _, is)) =
    let less = shorter network bytes r tunnel.0 tunnel.1 in
    omega (arith, less, ap length is)
inside_shorter network bytes r c tunnel (inr (inl (_, p))) =
    let less = shorter network bytes r tunnel.0 tunnel.1 in
    let within = of_type_within (pair r.content 2) (has_number r.content) (drop (gre_size r.content) r.content) c p.carries in
    omega (arith, less, within, length-drop (gre_size r.content) r.content)
inside_shorter network bytes r c tunnel (inr (inr (_, p))) =
    let less = shorter network bytes r tunnel.0 tunnel.1 in
    let within = typed_within (over_udp_type r.content) (drop (over_udp_size r.content) (payload_of r.content)) c p.carries in
    omega (arith, less, within, length-drop (over_udp_size r.content) (payload_of r.content), length-take (pair r.content 4 - 8) (drop 8 r.content), length-drop 8 r.content)

-- ---- frames in which no tunnel is

pub spells : (number : ℕ) (link : LinkType) (frame : List ℕ) (direction : Direction) (network : Network) (bytes : List ℕ) (r : Reached) → link_named number ≡ Some link
    → SpellsLink link frame (record { direction = direction; network = Some network; content = bytes }) → HasHeader network bytes → IsWhole network bytes → Reaches network bytes r
    → may_be_udp network r ≡ true → is_opened r ≡ false → SpellsFrame number frame (packet_of direction network bytes r)
spells number link frame direction network bytes r named linked header whole reaches udp plain =
    let c : Linked = record { direction = direction; network = Some network; content = bytes } in
    (c, network, (link, named, plainly link frame c network r linked refl reaches plain), refl, spells_ip direction network bytes r header whole reaches udp)

pub spells_ipv4 : (number : ℕ) (link : LinkType) (frame : List ℕ) (direction : Direction) (bytes : List ℕ) → link_named number ≡ Some link
    → SpellsLink link frame (record { direction = direction; network = Some Ipv4; content = bytes }) → HasHeader Ipv4 bytes → IsWhole Ipv4 bytes → at bytes 9 ≡ 17
    → is_opened (record { protocol = at bytes 9; fragment = part_of bytes; content = held_of Ipv4 bytes }) ≡ false
    → SpellsFrame number frame (packet_of direction Ipv4 bytes (record { protocol = at bytes 9; fragment = part_of bytes; content = held_of Ipv4 bytes }))
spells_ipv4 number link frame direction bytes named linked header whole is plain =
    spells number link frame direction Ipv4 bytes (record { protocol = at bytes 9; fragment = part_of bytes; content = held_of Ipv4 bytes }) named linked header whole
    (inl (ap is_wrapping is, refl)) (ap (λ n. n == 17) is) plain

-- ---- and frames in which tunnels are

pub itself : (c : Linked) (network : Network) (r : Reached) → c.network ≡ Some network → Reaches network c.content r → is_opened r ≡ false → LeadsIn c c
itself c network r is reaches plain = (zero, (no_tunnel c network r is reaches plain, refl))

pub in_tunnels : (number : ℕ) (link : LinkType) (frame : List ℕ) (outer inner : Linked) (network : Network) (r : Reached) → link_named number ≡ Some link → SpellsLink link frame outer → LeadsIn outer inner
    → inner.network ≡ Some network → HasHeader network inner.content → IsWhole network inner.content → Reaches network inner.content r → may_be_udp network r ≡ true
    → SpellsFrame number frame (packet_of inner.direction network inner.content r)
in_tunnels number link frame outer inner network r named linked leads is header whole reaches udp =
    (inner, network, (link, named, (outer, linked, leads)), is, spells_ip inner.direction network inner.content r header whole reaches udp)

-- ---- from what the parts answer

pub opened_by : (outer : Linked) (network : Network) (x : Option Upper) → outer.network ≡ Some network
    → MatchOption x ((r : Reached) → IsTunnel network outer.content r → ⊥) (λ found. IsTunnel network outer.content (reached found))
    → MatchOption x ((other : Network) (r : Reached) → outer.network ≡ Some other → IsTunnel other outer.content r → ⊥) (λ found. (other : Network) × (outer.network ≡ Some other) × IsTunnel other outer.content (reached found))
opened_by outer network None is none = λ other r as_well tunnel. none r (subst (λ (n : Network). IsTunnel n outer.content r) (same_network other network (sym as_well ∙ is)) tunnel)
opened_by outer network (Some found) is tunnel = (network, is, tunnel)

pub stands_in_gre : (r : Reached) (direction : Direction) (x : Option LinkContent) → r.protocol ≡ gre
    → MatchOption x ((c : Linked) → IsInGre r.content c → ⊥) (λ found. IsInGre r.content (linked found) × (found.direction ≡ direction))
    → MatchOption x ((c : Linked) → IsInside r c → ⊥) (λ found. IsInside r (linked found) × (found.direction ≡ direction))
stands_in_gre r direction None is none = λ c s. elim s [ inl other ↦ other.0 is | inr (inl stands) ↦ none c stands.1 | inr (inr stands) ↦ apart r.protocol is stands.0 ]
stands_in_gre r direction (Some found) is stands = (inr (inl (is, stands.0)), stands.1)

pub stands_in_udp : (r : Reached) (direction : Direction) (x : Option LinkContent) → r.protocol ≡ udp
    → MatchOption x ((c : Linked) → IsInUdp r.content c → ⊥) (λ found. IsInUdp r.content (linked found) × (found.direction ≡ direction))
    → MatchOption x ((c : Linked) → IsInside r c → ⊥) (λ found. IsInside r (linked found) × (found.direction ≡ direction))
stands_in_udp r direction None is none = λ c s. elim s [ inl other ↦ other.1 is | inr (inl stands) ↦ apart r.protocol stands.0 is | inr (inr stands) ↦ none c stands.1 ]
stands_in_udp r direction (Some found) is stands = (inr (inr (is, stands.0)), stands.1)

abbrev AnswersOfType : ℕ → Bool → List ℕ → Direction → Option LinkContent → Type 0
AnswersOfType kind is_counted after direction x = MatchOption x ((c : Linked) → IsOfType kind is_counted after c → ⊥) (λ found. IsOfType kind is_counted after (linked found) × (found.direction ≡ direction))

pub of_type_read : (kind : ℕ) (is_counted : Bool) (bytes : List ℕ) (direction : Direction) (x : Option LinkContent) → is_mirror kind ≡ false → is_type_in_gre kind ≡ true → AnswersTyped kind bytes direction x
    → AnswersOfType kind is_counted bytes direction x
of_type_read kind is_counted bytes direction None other type none = λ c s. elim s [ inl plain ↦ none c plain.2 | inr p ↦ false≢true (sym other ∙ p.mirror) ]
of_type_read kind is_counted bytes direction (Some found) other type is = (inl (other, type, is.0), is.1)

pub mirror_here : (kind : ℕ) (is_counted : Bool) (bytes : List ℕ) (direction : Direction) (x : Option LinkContent) → is_mirror kind ≡ true
    → MatchOption x ((c : Linked) → IsMirrored kind is_counted bytes c → ⊥) (λ found. IsMirrored kind is_counted bytes (linked found) × (found.direction ≡ direction))
    → AnswersOfType kind is_counted bytes direction x
mirror_here kind is_counted bytes direction None mirror none = λ c s. elim s [ inl plain ↦ false≢true (sym plain.0 ∙ mirror) | inr p ↦ none c p ]
mirror_here kind is_counted bytes direction (Some found) mirror is = (inr is.0, is.1)

pub mirror_read : (kind : ℕ) (is_counted : Bool) (bytes after : List ℕ) (size : ℕ) (direction : Direction) (x : Option LinkContent) → is_mirror kind ≡ true → size ≡ mirror_size kind is_counted bytes → size ≤ length bytes
    → is_mirror_read kind is_counted bytes ≡ true → after ≡ drop size bytes → AnswersTyped 25944 after direction x
    → MatchOption x ((c : Linked) → IsMirrored kind is_counted bytes c → ⊥) (λ found. IsMirrored kind is_counted bytes (linked found) × (found.direction ≡ direction))
mirror_read kind is_counted bytes after size direction x mirror size_is whole read after_is answers =
    made x (as_read 25944 25944 after (drop (mirror_size kind is_counted bytes) bytes) direction x refl (after_is ∙ ap (λ n. drop n bytes) size_is) answers)
  where
    made : (y : Option LinkContent) → AnswersTyped 25944 (drop (mirror_size kind is_counted bytes) bytes) direction y
        → MatchOption y ((c : Linked) → IsMirrored kind is_counted bytes c → ⊥) (λ found. IsMirrored kind is_counted bytes (linked found) × (found.direction ≡ direction))
    made None none = λ c p. none c p.carries
    made (Some found) is = (record { mirror = mirror; whole = subst (λ (n : ℕ). n ≤ length bytes) size_is whole; read = read; carries = is.0 }, is.1)

pub gre_read : (bytes after : List ℕ) (kind size : ℕ) (is_counted : Bool) (direction : Direction) (x : Option LinkContent) → 4 ≤ length bytes → is_gre_read bytes ≡ true → size ≡ gre_size bytes → size ≤ length bytes → kind ≡ pair bytes 2
    → is_counted ≡ has_number bytes → after ≡ drop size bytes → AnswersOfType kind is_counted after direction x
    → MatchOption x ((c : Linked) → IsInGre bytes c → ⊥) (λ found. IsInGre bytes (linked found) × (found.direction ≡ direction))
gre_read bytes after kind size is_counted direction x long flags size_is whole kind_is counted_is after_is answers =
    let all : after ≡ drop (gre_size bytes) bytes = after_is ∙ ap (λ n. drop n bytes) size_is in
    let of_kind : AnswersOfType kind is_counted (drop (gre_size bytes) bytes) direction x = subst (λ (y : List ℕ). AnswersOfType kind is_counted y direction x) all answers in
    let of_pair : AnswersOfType (pair bytes 2) is_counted (drop (gre_size bytes) bytes) direction x = subst (λ (n : ℕ). AnswersOfType n is_counted (drop (gre_size bytes) bytes) direction x) kind_is of_kind in
    made x (subst (λ (b : Bool). AnswersOfType (pair bytes 2) b (drop (gre_size bytes) bytes) direction x) counted_is of_pair)
  where
    made : (y : Option LinkContent) → AnswersOfType (pair bytes 2) (has_number bytes) (drop (gre_size bytes) bytes) direction y
        → MatchOption y ((c : Linked) → IsInGre bytes c → ⊥) (λ found. IsInGre bytes (linked found) × (found.direction ≡ direction))
    made None none = λ c stands. none c stands.carries
    made (Some found) is = (record { long = long; flags = flags; whole = subst (λ (n : ℕ). n ≤ length bytes) size_is whole; carries = is.0 }, is.1)

pub udp_read : (bytes payload after : List ℕ) (kind size : ℕ) (direction : Direction) (x : Option LinkContent) → 8 ≤ length bytes → payload ≡ payload_of bytes → size ≡ over_udp_size bytes → size ≤ length payload
    → kind ≡ over_udp_type bytes → is_type_in_gre kind ≡ true → after ≡ drop size payload → AnswersTyped kind after direction x
    → MatchOption x ((c : Linked) → IsInUdp bytes c → ⊥) (λ found. IsInUdp bytes (linked found) × (found.direction ≡ direction))
udp_read bytes payload after kind size direction x long payload_is size_is whole kind_is type after_is answers =
    let all : after ≡ drop (over_udp_size bytes) (payload_of bytes) = after_is ∙ ap (λ n. drop n payload) size_is ∙ ap (λ (p : List ℕ). drop (over_udp_size bytes) p) payload_is in
    made x (as_read kind (over_udp_type bytes) after (drop (over_udp_size bytes) (payload_of bytes)) direction x kind_is all answers)
  where
    made : (y : Option LinkContent) → AnswersTyped (over_udp_type bytes) (drop (over_udp_size bytes) (payload_of bytes)) direction y
        → MatchOption y ((c : Linked) → IsInUdp bytes c → ⊥) (λ found. IsInUdp bytes (linked found) × (found.direction ≡ direction))
    made None none = λ c stands. none c stands.carries
    made (Some found) is = (
      record {
        long = long;
        whole = subst (λ (n : ℕ). n ≤ length (payload_of bytes)) size_is (subst (λ (p : List ℕ). size ≤ length p) payload_is whole);
        type = subst (λ (n : ℕ). is_type_in_gre n ≡ true) kind_is type;
        carries = is.0;
      },
      is.1,
    )

pub carried_over : (link : LinkType) (frame : List ℕ) (outer : Linked) (x : Option LinkContent) → SpellsLink link frame outer
    → MatchOption x ((c : Linked) → LeadsIn outer c → ⊥) (λ found. LeadsIn outer (linked found)) → MatchOption x ((c : Linked) → IsCarried link frame c → ⊥) (λ found. IsCarried link frame (linked found))
carried_over link frame outer None spelled none = λ c carried. none c (subst (λ (y : Linked). LeadsIn y c) (link_one link frame carried.0 outer carried.1 spelled) carried.2)
carried_over link frame outer (Some found) spelled leads = (outer, spelled, leads)
