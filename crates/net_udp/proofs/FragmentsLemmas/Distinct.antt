-- The parts that a content was cut into do not overlap, in whatever order they come and however often.
use Rattle.std.proofs.Common.{◌≡◌, ◌≢◌, ◌⊎◌, ℕ, ◌+◌, ◌≤◌, inl, inr, List, [], ◌∷◌, length, refl, sym, ap, ◌∙◌, subst, arith}
use Rattle.std.proofs.lemmas.Bool.{cases_lt}
use Rattle.net_udp.specs.Fragments.Whole.{Content, Part}
use Rattle.net_udp.specs.Fragments.{Among, AreSame, Covers, InRow, IsCutInto, Overlap, PutTogether, TwoOverlap, end_of, extent_of}
use Rattle.net_udp.proofs.FragmentsLemmas.Contents.{in_any_order}
use Rattle.net_udp.proofs.FragmentsLemmas.Members.{member}

-- no part of a row begins before it
row_from : (place : ℕ) (parts : List Part) (bytes : List ℕ) (p : Part) → InRow place parts bytes → Among (λ q. q ≡ p) parts → place ≤ p.place
row_from place [] bytes p r a = absurd r
row_from place (q ∷ []) bytes p r (inl e) = omega (arith, r.0, ap (λ (x : Part). x.place) e)
row_from place (q ∷ []) bytes p r (inr a) = absurd a
row_from place (q ∷ s ∷ ps) bytes p r (inl e) = omega (arith, r.1, ap (λ (x : Part). x.place) e)
row_from place (q ∷ s ∷ ps) bytes p r (inr a) = omega (arith, row_from (place + length q.content) (s ∷ ps) r.0 p r.6 a)

-- the two are the same, or one ends before the other begins
abbrev Stand : Part → Part → Type 0
Stand p q = (p ≡ q) ⊎ ((end_of p ≤ q.place) ⊎ (end_of q ≤ p.place))

ends_before : (place : ℕ) (x p q : Part) → x ≡ p → x.place ≡ place → place + length x.content ≤ q.place → end_of p ≤ q.place
ends_before place x p q e at low = subst (λ (z : Part). end_of z ≤ q.place) e (omega (arith, low, at))

row_stands : (place : ℕ) (parts : List Part) (bytes : List ℕ) (p q : Part) → InRow place parts bytes → Among (λ x. x ≡ p) parts → Among (λ x. x ≡ q) parts → Stand p q
row_stands place [] bytes p q r a b = absurd r
row_stands place (x ∷ []) bytes p q r (inl e) (inl f) = inl (sym e ∙ f)
row_stands place (x ∷ []) bytes p q r (inl e) (inr b) = absurd b
row_stands place (x ∷ []) bytes p q r (inr a) b = absurd a
row_stands place (x ∷ y ∷ ps) bytes p q r (inl e) (inl f) = inl (sym e ∙ f)
row_stands place (x ∷ y ∷ ps) bytes p q r (inl e) (inr b) = inr (inl (ends_before place x p q e r.1 (row_from (place + length x.content) (y ∷ ps) r.0 q r.6 b)))
row_stands place (x ∷ y ∷ ps) bytes p q r (inr a) (inl f) = inr (inr (ends_before place x q p f r.1 (row_from (place + length x.content) (y ∷ ps) r.0 p r.6 a)))
row_stands place (x ∷ y ∷ ps) bytes p q r (inr a) (inr b) = row_stands (place + length x.content) (y ∷ ps) r.0 p q r.6 a b

no_overlap : (p q : Part) → Stand p q → Overlap (extent_of p) (extent_of q) → ⊥
no_overlap p q (inl e) o = o.2 (ap extent_of e)
no_overlap p q (inr (inl before)) o = absurd (omega (arith, before, o.1))
no_overlap p q (inr (inr behind)) o = absurd (omega (arith, behind, o.0))

pub row_distinct : (place : ℕ) (parts others : List Part) (bytes : List ℕ) → InRow place parts bytes → ((p : Part) → Among (λ q. q ≡ p) others → Among (λ q. q ≡ p) parts) → TwoOverlap others → ⊥
row_distinct place parts [] bytes r back two = two
row_distinct place parts (p ∷ ps) bytes r back (inl one) =
    let m = member (λ q. Overlap (extent_of p) (extent_of q)) ps one.1 in
    no_overlap p m.0 (row_stands place parts bytes p m.0 r (back p (inl refl)) (back m.0 (inr m.2))) m.1
row_distinct place parts (p ∷ ps) bytes r back (inr two) = row_distinct place parts ps bytes r (λ q a. back q (inr a)) two

pub made_in_any_order : (parts others : List Part) (whole : Content) → IsCutInto whole parts → AreSame parts others → PutTogether others whole
made_in_any_order parts others whole row same = (in_any_order parts others whole row same, row_distinct 0 parts others whole.bytes row.0 same.back)

-- ---- overlaps and the places of bytes

pub meet_at : (p q : Part) → 1 ≤ length p.content → 1 ≤ length q.content → Overlap (extent_of p) (extent_of q) → (k : ℕ) × Covers k p × Covers k q
meet_at p q some more o = elim (cases_lt p.place q.place) [
  | inl low ↦ (q.place, (omega (arith, low), o.1), (omega arith, omega (arith, more)))
  | inr high ↦ (p.place, (omega arith, omega (arith, some)), (high, o.0))
]

pub meets : (p q : Part) (k : ℕ) → Covers k p → Covers k q → extent_of p ≢ extent_of q → Overlap (extent_of p) (extent_of q)
meets p q k c d other = (omega (arith, c, d), omega (arith, c, d), other)
