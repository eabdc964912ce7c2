-- Parts of a list, and what holds of them.
use Rattle.std.proofs.Common.{◌≡◌, ℕ, ◌+◌, ◌-◌, ◌<◌, ◌≤◌, Bool, true, false, inl, inr, List, [], ◌∷◌, length, slice_index, refl, arith, subst, sym}
use Rattle.std.specs.List.{AllByRecursion}
use Rattle.std.proofs.lemmas.Bool.{cases_lt}
use Rattle.net_udp.specs.Fragments.Whole.{Content, Part}
use Rattle.net_udp.specs.Fragments.{Among, Covers, EndsRightly, Give, HasPart, end_of}

pub pick : (P Q : Part → Type 0) (ps : List Part) → Among P ps → AllByRecursion Q ps → (p : Part) × P p × Q p
pick P Q [] a h = absurd a
pick P Q (p ∷ ps) a h = elim a [ inl x ↦ (p, x, h.0) | inr y ↦ pick P Q ps y h.1 ]

pub all_weaker : (P Q : Part → Type 0) → ((p : Part) → P p → Q p) → (ps : List Part) → AllByRecursion P ps → AllByRecursion Q ps
all_weaker P Q f [] h = tt
all_weaker P Q f (p ∷ ps) h = (f p h.0, all_weaker P Q f ps h.1)

pub among_weaker : (P Q : Part → Type 0) → ((p : Part) → P p → Q p) → (ps : List Part) → Among P ps → Among Q ps
among_weaker P Q f [] a = a
among_weaker P Q f (p ∷ ps) a = elim a [ inl x ↦ inl (f p x) | inr y ↦ inr (among_weaker P Q f ps y) ]

-- one that is so, and that it is among them
pub member : (P : Part → Type 0) (ps : List Part) → Among P ps → (p : Part) × P p × Among (λ q. q ≡ p) ps
member P [] a = absurd a
member P (p ∷ ps) a = elim a [
  | inl x ↦ (p, x, inl refl)
  | inr y ↦ let m = member P ps y in (m.0, m.1, inr m.2)
]

pub all_from : (P : Part → Type 0) (ps : List Part) → ((p : Part) → Among (λ q. q ≡ p) ps → P p) → AllByRecursion P ps
all_from P [] f = tt
all_from P (p ∷ ps) f = (f p (inl refl), all_from P ps (λ q a. f q (inr a)))

pub all_at : (P : Part → Type 0) (ps : List Part) (p : Part) → AllByRecursion P ps → Among (λ q. q ≡ p) ps → P p
all_at P ps p h a = let m = pick (λ q. q ≡ p) P ps a h in subst P m.1 m.2

pub among_at : (P : Part → Type 0) (ps : List Part) (p : Part) → P p → Among (λ q. q ≡ p) ps → Among P ps
among_at P ps p h a = among_weaker (λ q. q ≡ p) P (λ q e. subst P (sym e) h) ps a

-- ---- one part and the content

pub byte_of : (whole : Content) (p : Part) (k : ℕ) → HasPart whole p → Covers k p → slice_index whole.bytes k ≡ slice_index p.content (k - p.place)
byte_of whole p k h c =
    let i : k - p.place < length p.content = omega arith in
    let e : p.place + (k - p.place) ≡ k = omega arith in
    rw e at (h.bytes (k - p.place) i)

pub last_ends : (more : Bool) (end size : ℕ) → more ≡ false → EndsRightly more end size → end ≡ size
last_ends true end size e h = cc
last_ends false end size e h = h

pub inner_ends : (more : Bool) (end size : ℕ) → more ≡ true → EndsRightly more end size → end < size
inner_ends true end size e h = h
inner_ends false end size e h = cc

pub ends_within : (more : Bool) (end size : ℕ) → EndsRightly more end size → end ≤ size
ends_within true end size h = omega arith
ends_within false end size h = omega arith

-- the first part of a content
pub first_part : (parts : List Part) (whole : Content) → Give parts whole → (p : Part) × (p.place ≡ 0) × Among (λ q. q ≡ p) parts
first_part parts whole g = elim (cases_lt 0 (length whole.bytes)) [
  | inl some ↦ let m = member (Covers 0) parts (g.covered 0 some) in (m.0, omega (arith, m.1.0), m.2)
  | inr none ↦
      let m = member (λ p. p.more ≡ false) parts g.last in
      let ends = last_ends m.0.more (end_of m.0) (length whole.bytes) m.1 (all_at (HasPart whole) parts m.0 g.each m.2).ends in
      (m.0, omega (arith, ends, none), m.2)
]
