-- Headers that are not read: the one to which a type or a header leads.
use Rattle.std.proofs.Common.{◌≡◌, ◌≢◌, ◌↔◌, inl, inr, ℕ, zero, suc, ◌<◌, ◌≤◌, ◌==◌, ◌&&◌, ◌||◌, not, nat_lt, Bool, true, false, List, length, length-drop, drop, refl, sym, ap, ◌∙◌, subst, arith, Option, Some, None, MatchOption, if◌then◌else◌}
use Rattle.std.proofs.lemmas.Bool.{false≢true, or_cases}
use Rattle.std.proofs.lemmas.Bool.Decides.{Decides-eqb}
use Rattle.std.specs.Option.{is_some}
use Rattle.net_udp.specs.Frames.{HasHeader, HasUnread, IsCarried, IsOver, IsSealed, IsSealedIn, IsSkipped, IsUnreadInIp, IsUnreadInside, IsUnreadOver, Linked, SealedOver, UnreadAfter, UnreadInIpv4, at, held_of, hidden_by, is_atomic, least, link_named, next_type, sealed_by, shim_size, skipped_size, type_in, unread_by}
use Rattle.net_udp.specs.Frames.Extension.{is_skippable}
use Rattle.net_udp.specs.Frames.Ip.{part_of}
use Rattle.net_udp.specs.Frames.Tag.{is_bridged, is_labelled, is_numbered, is_tag_type}
use Rattle.net_udp.specs.declared.frames.link.LinkType.{LinkType}
use Rattle.net_udp.specs.declared.frames.link.Network.{Network}
use Rattle.net_udp.specs.declared.frames.link.Network.TheVariants.{Ipv4, Ipv6}
use Rattle.net_udp.specs.declared.frames.unread.UnreadHeader.{UnreadHeader}
use Rattle.net_udp.specs.declared.frames.unread.UnreadHeader.TheVariants.{MacSec, Backbone, PortExtension, Trill, ServiceHeader, SwitchTag, Routing}
use Rattle.net_udp.proofs.FramesLemmas.Links.{answer_of}
use Rattle.net_udp.proofs.FramesLemmas.Tags.{over_one}
use Rattle.net_udp.proofs.FramesLemmas.Tunnels.{carried_one}

pub no_header : (u : UnreadHeader) → None ≡ Some u → ⊥
no_header u e = cc

pub no_type : (n : ℕ) → None ≡ Some n → ⊥
no_type n e = cc

same_type : (n m : ℕ) → Some n ≡ Some m → n ≡ m
same_type n m e = cc

same_network : (n m : Network) → Some n ≡ Some m → n ≡ m
same_network n m e = cc

same_link : (n m : LinkType) → Some n ≡ Some m → n ≡ m
same_link n m e = cc

abbrev pub Answers : Option UnreadHeader → (UnreadHeader → Type 0) → Type 0
Answers r P = MatchOption r ((u : UnreadHeader) → P u → ⊥) P

-- ---- behind a type

-- of two cases the one that holds
pub case_of : (b : Bool) (a u : UnreadHeader) (rest : Option UnreadHeader) (P : Type 0) → (b ≡ true → P) → (rest ≡ Some u → P) → (if b then Some a else rest) ≡ Some u → P
case_of true a u rest P now later e = now refl
case_of false a u rest P now later e = later e

-- what holds of each type behind which nothing is read
pub of_sealed : (P : ℕ → Type 0) → P 35045 → P 35047 → P 35135 → P 8947 → P 35151 → P 56026 → (type : ℕ) (u : UnreadHeader) → sealed_by type ≡ Some u → P type
of_sealed P one two three four five six type u =
    case_of (type == 35045) MacSec u _ (P type) (is 35045 one)
    (case_of (type == 35047) Backbone u _ (P type) (is 35047 two)
    (case_of (type == 35135) PortExtension u _ (P type) (is 35135 three)
    (case_of (type == 8947) Trill u _ (P type) (is 8947 four)
    (case_of (type == 35151) ServiceHeader u _ (P type) (is 35151 five)
    (case_of (type == 56026) SwitchTag u None (P type) (is 56026 six) (λ e. absurd (no_header u e)))))))
  where
    is : (n : ℕ) → P n → (type == n) ≡ true → P type
    is n known e = subst P (sym ((Decides-eqb type n).0 e)) known

-- it names no type
pub sealed_names_none : (type : ℕ) (bytes : List ℕ) (u : UnreadHeader) → sealed_by type ≡ Some u → next_type type bytes ≡ None
sealed_names_none type bytes = of_sealed (λ n. next_type n bytes ≡ None) refl refl refl refl refl refl type

-- one more that is read
sealed_step : (type : ℕ) (bytes : List ℕ) (next : ℕ) (u : UnreadHeader) → IsOver type bytes next → IsSealed type bytes u ↔ IsSealed next (drop (shim_size type) bytes) u
sealed_step type bytes next u over = ((λ s. forth s.0 s.1), λ s. (suc s.0, (next, over, s.1)))
  where
    forth : (shims : ℕ) → SealedOver shims type bytes u → IsSealed next (drop (shim_size type) bytes) u
    forth zero s = absurd (no_type next (sym (sealed_names_none type bytes u s) ∙ over.2))
    forth (suc shims) s = (shims, subst (λ (n : ℕ). SealedOver shims n (drop (shim_size type) bytes) u) (over_one type bytes s.0 next s.1 over) s.2)

-- the loop's step
pub sealed_next : (type : ℕ) (bytes : List ℕ) (next : ℕ) (rest : List ℕ) (u : UnreadHeader) → IsOver type bytes next → rest ≡ drop (shim_size type) bytes → IsSealed type bytes u ↔ IsSealed next rest u
sealed_next type bytes next rest u over rest_is = subst (λ (r : List ℕ). IsSealed type bytes u ↔ IsSealed next r u) (sym rest_is) (sealed_step type bytes next u over)

some_bytes : (a b c : Bool) → 4 ≤ (if a then 4 else (if b then 6 else (if c then 14 else 8)))
some_bytes true b c = omega arith
some_bytes false true c = omega arith
some_bytes false false true = omega arith
some_bytes false false false = omega arith

-- less is left
pub sealed_shorter : (type : ℕ) (bytes : List ℕ) (next : ℕ) (rest : List ℕ) → IsOver type bytes next → rest ≡ drop (shim_size type) bytes → length rest < length bytes
sealed_shorter type bytes next rest over rest_is =
    let some : 4 ≤ shim_size type = some_bytes (is_tag_type type || is_labelled type) (is_numbered type) (is_bridged type) in
    omega (arith, some, over.1, ap length rest_is, length-drop (shim_size type) bytes)

-- the last one
pub sealed_here : (type : ℕ) (bytes : List ℕ) (r : Option UnreadHeader) → r ≡ sealed_by type → ((next : ℕ) → IsOver type bytes next → ⊥) → Answers r (IsSealed type bytes)
sealed_here type bytes None is none = λ u s. no u s.0 s.1
  where
    no : (u : UnreadHeader) (shims : ℕ) → SealedOver shims type bytes u → ⊥
    no u zero s = no_header u (is ∙ s)
    no u (suc shims) s = none s.0 s.1
sealed_here type bytes (Some u) is none = (zero, sym is)

-- on a link
pub sealed_on : (link : LinkType) (frame : List ℕ) (kind size : ℕ) (after : List ℕ) (r : Option UnreadHeader) → size ≡ least link → size ≤ length frame → Some kind ≡ type_in link frame → after ≡ drop size frame
    → Answers r (IsSealed kind after) → Answers r (IsSealedIn link frame)
sealed_on link frame kind size after r size_is long named after_is =
    answer_of r _ _ _ _ (λ none u s. none u (back u s)) (λ u s. (kind, subst (λ (n : ℕ). n ≤ length frame) size_is long, sym named, subst (λ (x : List ℕ). IsSealed kind x u) all s))
  where
    all : after ≡ drop (least link) frame
    all = after_is ∙ ap (λ n. drop n frame) size_is

    back : (u : UnreadHeader) → IsSealedIn link frame u → IsSealed kind after u
    back u (type, _, is, s) = subst (λ (n : ℕ). IsSealed n after u) (sym (same_type kind type (named ∙ is))) (subst (λ (x : List ℕ). IsSealed type x u) (sym all) s)

-- ---- in a packet of IP

first_holds : (a b : Bool) → (a && b) ≡ true → a ≡ true
first_holds true b e = refl
first_holds false b e = cc

second_holds : (a b : Bool) → (a && b) ≡ true → b ≡ true
second_holds true b e = e
second_holds false b e = cc

none_left : (long : Bool) (n : ℕ) → n ≡ 0 → (if long && nat_lt 0 n then Some Routing else None) ≡ None
none_left long n is = ap (λ m. if long && nat_lt 0 m then Some Routing else None) is ∙ stop long
  where
    stop : (b : Bool) → (if b && nat_lt 0 0 then Some Routing else None) ≡ None
    stop true = refl
    stop false = refl

whole_part : (long whole : Bool) (h : Option UnreadHeader) → whole ≡ true → (if long && not whole then h else None) ≡ None
whole_part true true h e = refl
whole_part false true h e = refl
whole_part long false h e = absurd (false≢true e)

skippable_is_read : (next : ℕ) (bytes : List ℕ) → is_skippable next bytes ≡ true → unread_by next bytes ≡ None
skippable_is_read next bytes test = elim (or_cases (next == 0 || next == 60) (((next == 51) && nat_lt 0 (at bytes 1)) || ((next == 43) && (at bytes 3 == 0))) test) [
  | inl options ↦ elim (or_cases (next == 0) (next == 60) options) [ inl hops ↦ is 0 refl hops | inr target ↦ is 60 refl target ]
  | inr other ↦ elim (or_cases ((next == 51) && nat_lt 0 (at bytes 1)) ((next == 43) && (at bytes 3 == 0)) other) [
    | inl authenticates ↦ is 51 refl (first_holds (next == 51) (nat_lt 0 (at bytes 1)) authenticates)
    | inr routes ↦ is 43 (none_left (nat_lt 7 (length bytes)) (at bytes 3) ((Decides-eqb (at bytes 3) 0).0 (second_holds (next == 43) (at bytes 3 == 0) routes))) (first_holds (next == 43) (at bytes 3 == 0) routes)
  ]
]
  where
    is : (n : ℕ) → unread_by n bytes ≡ None → (next == n) ≡ true → unread_by next bytes ≡ None
    is n known e = ap (λ m. unread_by m bytes) ((Decides-eqb next n).0 e) ∙ known

-- what is skipped is read
pub skipped_is_read : (next : ℕ) (bytes : List ℕ) → IsSkipped next bytes → unread_by next bytes ≡ None
skipped_is_read next bytes (long, fits, inl test) = skippable_is_read next bytes test
skipped_is_read next bytes (long, fits, inr (is_part, whole)) = ap (λ m. unread_by m bytes) is_part ∙ whole_part (nat_lt 7 (length bytes)) (is_atomic bytes) (hidden_by (at bytes 0)) whole

unread_step : (next : ℕ) (bytes : List ℕ) (u : UnreadHeader) → IsSkipped next bytes → IsUnreadOver next bytes u ↔ IsUnreadOver (at bytes 0) (drop (skipped_size next bytes) bytes) u
unread_step next bytes u skipped = ((λ s. forth s.0 s.1), λ s. (suc s.0, (skipped, s.1)))
  where
    forth : (headers : ℕ) → UnreadAfter headers next bytes u → IsUnreadOver (at bytes 0) (drop (skipped_size next bytes) bytes) u
    forth zero s = absurd (no_header u (sym (skipped_is_read next bytes skipped) ∙ s))
    forth (suc headers) s = (headers, s.1)

-- the loop's step
pub unread_next : (next : ℕ) (bytes : List ℕ) (size : ℕ) (rest : List ℕ) (u : UnreadHeader) → IsSkipped next bytes → size ≡ skipped_size next bytes → rest ≡ drop size bytes → IsUnreadOver next bytes u ↔ IsUnreadOver (at bytes 0) rest u
unread_next next bytes size rest u skipped size_is rest_is =
    let all : rest ≡ drop (skipped_size next bytes) bytes = rest_is ∙ ap (λ n. drop n bytes) size_is in
    subst (λ (x : List ℕ). IsUnreadOver next bytes u ↔ IsUnreadOver (at bytes 0) x u) (sym all) (unread_step next bytes u skipped)

-- the last one
pub unread_here : (next : ℕ) (bytes : List ℕ) (r : Option UnreadHeader) → r ≡ unread_by next bytes → (IsSkipped next bytes → ⊥) → Answers r (IsUnreadOver next bytes)
unread_here next bytes None is none = λ u s. no u s.0 s.1
  where
    no : (u : UnreadHeader) (headers : ℕ) → UnreadAfter headers next bytes u → ⊥
    no u zero s = no_header u (is ∙ s)
    no u (suc headers) s = none s.0
unread_here next bytes (Some u) is none = (zero, sym is)

-- in IPv4: by the packet's own header
pub named_in_ipv4 : (bytes content : List ℕ) (r : Option UnreadHeader) → r ≡ hidden_by (at bytes 9) → at bytes 9 ≢ 51 → Answers r (UnreadInIpv4 bytes content)
named_in_ipv4 bytes content None is other = λ u s. elim s [ inl by ↦ no_header u (is ∙ by) | inr over ↦ other over.0 ]
named_in_ipv4 bytes content (Some u) is other = inl (sym is)

-- nothing is named of a part of what is authenticated
pub none_in_part : (bytes content : List ℕ) → at bytes 9 ≡ 51 → is_some (part_of bytes) ≡ true → (u : UnreadHeader) → UnreadInIpv4 bytes content u → ⊥
none_in_part bytes content is part u (inl by) = no_header u (ap hidden_by (sym is) ∙ by)
none_in_part bytes content is part u (inr (_, whole, _)) = false≢true (ap is_some (sym whole) ∙ part)

-- behind authentication
pub over_authentication : (bytes content : List ℕ) (r : Option UnreadHeader) → at bytes 9 ≡ 51 → part_of bytes ≡ None → Answers r (IsUnreadOver 51 content) → Answers r (UnreadInIpv4 bytes content)
over_authentication bytes content r is whole =
    answer_of r _ _ _ _ (λ none u s. elim s [ inl by ↦ no_header u (ap hidden_by (sym is) ∙ by) | inr over ↦ none u over.2 ]) (λ u s. inr (is, whole, s))

pub in_ipv4 : (network : Network) (bytes content : List ℕ) (r : Option UnreadHeader) → network ≡ Ipv4 → HasHeader network bytes → content ≡ held_of network bytes
    → Answers r (UnreadInIpv4 bytes content) → Answers r (IsUnreadInIp network bytes)
in_ipv4 network bytes content r is header held answers = subst (λ (n : Network). Answers r (IsUnreadInIp n bytes)) (sym is) (answer_of r _ _ _ _ (λ none u s. none u s.1) (λ u s. (whole, s)) moved)
  where
    whole : HasHeader Ipv4 bytes
    whole = subst (λ (n : Network). HasHeader n bytes) is header

    moved : Answers r (UnreadInIpv4 bytes (held_of Ipv4 bytes))
    moved = subst (λ (x : List ℕ). Answers r (UnreadInIpv4 bytes x)) (subst (λ (n : Network). content ≡ held_of n bytes) is held) answers

pub in_ipv6 : (network : Network) (bytes content : List ℕ) (r : Option UnreadHeader) → network ≡ Ipv6 → HasHeader network bytes → content ≡ held_of network bytes
    → Answers r (IsUnreadOver (at bytes 6) content) → Answers r (IsUnreadInIp network bytes)
in_ipv6 network bytes content r is header held answers = subst (λ (n : Network). Answers r (IsUnreadInIp n bytes)) (sym is) (answer_of r _ _ _ _ (λ none u s. none u s.1) (λ u s. (whole, s)) moved)
  where
    whole : HasHeader Ipv6 bytes
    whole = subst (λ (n : Network). HasHeader n bytes) is header

    moved : Answers r (IsUnreadOver (at bytes 6) (held_of Ipv6 bytes))
    moved = subst (λ (x : List ℕ). Answers r (IsUnreadOver (at bytes 6) x)) (subst (λ (n : Network). content ≡ held_of n bytes) is held) answers

-- ---- in a frame

-- what stands in the packet that is carried
pub as_carried : (link : LinkType) (frame : List ℕ) (c : Linked) (network : Network) (u : UnreadHeader) → IsCarried link frame c → c.network ≡ Some network → IsUnreadInside link frame u → IsUnreadInIp network c.content u
as_carried link frame c network u carried is (d, other, again, as_well, s) =
    let one : d ≡ c = carried_one link frame d c again carried in
    let same : other ≡ network = same_network other network (sym as_well ∙ ap (λ (l : Linked). l.network) one ∙ is) in
    subst (λ (n : Network). IsUnreadInIp n c.content u) same (subst (λ (l : Linked). IsUnreadInIp other l.content u) one s)

pub found_inside : (link : LinkType) (frame : List ℕ) (c : Linked) (network : Network) (r : Option UnreadHeader) → IsCarried link frame c → c.network ≡ Some network
    → Answers r (IsUnreadInIp network c.content) → Answers r (IsUnreadInside link frame)
found_inside link frame c network r carried is = answer_of r _ _ _ _ (λ none u s. none u (as_carried link frame c network u carried is s)) (λ u s. (c, network, carried, is, s))

pub none_without_ip : (link : LinkType) (frame : List ℕ) (c : Linked) → IsCarried link frame c → c.network ≡ None → (u : UnreadHeader) → IsUnreadInside link frame u → ⊥
none_without_ip link frame c carried is u (d, other, again, as_well, _) =
    let bad : None ≡ Some other = sym is ∙ ap (λ (l : Linked). l.network) (carried_one link frame c d carried again) ∙ as_well in cc

pub none_carried : (link : LinkType) (frame : List ℕ) → ((c : Linked) → IsCarried link frame c → ⊥) → (u : UnreadHeader) → IsUnreadInside link frame u → ⊥
none_carried link frame none u (d, _, again, _, _) = none d again

pub has_sealed : (number : ℕ) (frame : List ℕ) (link : LinkType) (u : UnreadHeader) → link_named number ≡ Some link → IsSealedIn link frame u → HasUnread number frame u
has_sealed number frame link u named s = (link, named, inl s)

pub has_inside : (number : ℕ) (frame : List ℕ) (link : LinkType) (r : Option UnreadHeader) → link_named number ≡ Some link → ((u : UnreadHeader) → IsSealedIn link frame u → ⊥)
    → Answers r (IsUnreadInside link frame) → Answers r (HasUnread number frame)
has_inside number frame link r named apart = answer_of r _ _ _ _ (λ none u s. no none u s) (λ u s. (link, named, inr s))
  where
    no : ((u : UnreadHeader) → IsUnreadInside link frame u → ⊥) → (u : UnreadHeader) → HasUnread number frame u → ⊥
    no none u (other, called, s) =
        let same : other ≡ link = same_link other link (sym called ∙ named) in
        elim s [
          | inl sealed ↦ apart u (subst (λ (l : LinkType). IsSealedIn l frame u) same sealed)
          | inr inside ↦ none u (subst (λ (l : LinkType). IsUnreadInside l frame u) same inside)
        ]
