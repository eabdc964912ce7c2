-- What is held after a block was handed over.
use Rattle.std.proofs.Common.{Ordering, Less, Equal, Greater, ◌≡◌, ◌≢◌, ℕ, ◌≤◌, Bool, true, false, cond, List, Some, None, length, codes, inl, inr, refl, sym, ap, subst, ◌∙◌, arith}
use Rattle.std.proofs.lemmas.Bool.{false≢true, cases_lt}
use Rattle.std.proofs.lemmas.Cmp.{nat_cmp_total}
use Rattle.std.proofs.lemmas.Slice.Eq.{bytes_eq-Decides}
use Rattle.std.specs.Cmp.{nat_cmp_is}
use Rattle.std.specs.Ordering.{nat_cmp, is_eq, eq_by_cmp}
use Rattle.std.specs.FinMap as map
use Rattle.tftp_ends.specs.Blocks.{Held, nothing_held, IsHeldFront, IsHeldLast, JoinsSeveral, Takes, Placing, New, Same, Differs, Places, first_held, first_and_fourth}

is_equal : (r : Ordering) → is_eq r ≡ true → r ≡ Equal
is_equal Less e = absurd (cc)
is_equal Equal e = refl
is_equal Greater e = absurd (cc)

number_is : (q k : ℕ) → eq_by_cmp nat_cmp q k ≡ true → q ≡ k
number_is q k e = map.nat_cmp-IsAntisymmetric q k (is_equal (nat_cmp q k) e)

same_number : (k : ℕ) → eq_by_cmp nat_cmp k k ≡ true
same_number k = ap is_eq (sym (nat_cmp_is k k Equal refl))

got : (held : Held) (k : ℕ) (bytes : List ℕ) (q : ℕ) → map.get (map.insert held k bytes) q ≡ cond (eq_by_cmp nat_cmp q k) (Some bytes) (map.get held q)
got held k bytes q = map.get-insert nat_cmp_total held k bytes q

pub placed_is_held : (old new : Held) (k : ℕ) (bytes : List ℕ) (placing : Placing) → Places old new k bytes placing → placing ≢ Differs → map.get new k ≡ Some bytes
placed_is_held old new k bytes New p other =
    subst (λ m. map.get m k ≡ Some bytes) (sym p.1) (got old k bytes k ∙ ap (λ b. cond b (Some bytes) (map.get old k)) (same_number k))
placed_is_held old new k bytes Same p other = subst (λ m. map.get m k ≡ Some bytes) (sym p.1) p.0
placed_is_held old new k bytes Differs p other = absurd (other refl)

pub others_are_kept : (old new : Held) (k : ℕ) (bytes : List ℕ) (placing : Placing) → Places old new k bytes placing → (other : ℕ) → other ≢ k → map.get new other ≡ map.get old other
others_are_kept old new k bytes New p other differs = subst (λ m. map.get m other ≡ map.get old other) (sym p.1) (got old k bytes other ∙ by (eq_by_cmp nat_cmp other k) refl)
  where
    by : (b : Bool) → eq_by_cmp nat_cmp other k ≡ b → cond (eq_by_cmp nat_cmp other k) (Some bytes) (map.get old other) ≡ map.get old other
    by true e = absurd (differs (number_is other k e))
    by false e = ap (λ b. cond b (Some bytes) (map.get old other)) e
others_are_kept old new k bytes Same p other differs = ap (λ m. map.get m other) p.1
others_are_kept old new k bytes Differs p other differs = ap (λ m. map.get m other) p.1

-- ---- the first block, and the fourth

in_first : (q : ℕ) → map.get first_held q ≡ cond (eq_by_cmp nat_cmp q 1) (Some (codes "11111111")) None
in_first q = got nothing_held 1 (codes "11111111") q ∙ ap (λ o. cond (eq_by_cmp nat_cmp q 1) (Some (codes "11111111")) o) (map.get-empty nat_cmp q)

in_both : (q : ℕ) → map.get first_and_fourth q ≡ cond (eq_by_cmp nat_cmp q 4) (Some (codes "44444444")) (cond (eq_by_cmp nat_cmp q 1) (Some (codes "11111111")) None)
in_both q = got first_held 4 (codes "44444444") q ∙ ap (λ o. cond (eq_by_cmp nat_cmp q 4) (Some (codes "44444444")) o) (in_first q)

pub fourth_is_new : Places first_held first_and_fourth 4 (codes "44444444") New
fourth_is_new = (in_first 4, refl)

pub first_is_same : Places first_held first_held 1 (codes "11111111") Same
first_is_same = (in_first 1, refl)

other_bytes : codes "11111111" ≢ codes "11111112"
other_bytes e = let is : false ≡ true = (bytes_eq-Decides (codes "11111111") (codes "11111112")).1 e in false≢true is

pub first_differs : Places first_held first_held 1 (codes "11111112") Differs
first_differs = ((codes "11111111", in_first 1, other_bytes), refl)

pub front_is_one : IsHeldFront first_and_fourth 1
front_is_one = record {
  below = λ k low high. let is : 1 ≡ k = omega arith in (codes "11111111", subst (λ n. map.get first_and_fourth n ≡ Some (codes "11111111")) is (in_both 1));
  next = in_both 2;
}

front_within : (front : ℕ) → IsHeldFront first_and_fourth front → front ≤ 1
front_within front is = elim (cases_lt 1 front) [
  | inl above ↦ let second = is.below 2 (omega arith) above in let both : None ≡ Some second.0 = sym (in_both 2) ∙ second.1 in absurd (cc)
  | inr within ↦ within
]

whole : (bytes : List ℕ) (a b : Bool) → cond a (Some (codes "44444444")) (cond b (Some (codes "11111111")) None) ≡ Some bytes → length bytes ≡ 8
whole bytes true b e = let is : codes "44444444" ≡ bytes = cc in ap length (sym is)
whole bytes false true e = let is : codes "11111111" ≡ bytes = cc in ap length (sym is)
whole bytes false false e = absurd (cc)

no_last : (last : ℕ) → IsHeldLast 8 first_and_fourth last → ⊥
no_last last (bytes, get, short) = let long = whole bytes (eq_by_cmp nat_cmp last 4) (eq_by_cmp nat_cmp last 1) (sym (in_both last) ∙ get) in omega arith

pub takes_fifth : Takes 8 4 first_and_fourth 5 8
takes_fifth = record {
  from_one = omega arith;
  within = (1, front_is_one, omega arith);
  fits = omega arith;
  before_last = λ last is. absurd (no_last last is);
  is_last = λ short. absurd (omega arith);
}

pub not_sixth : Takes 8 4 first_and_fourth 6 8 → ⊥
not_sixth takes = let near = takes.within.2 in let low = front_within takes.within.0 takes.within.1 in omega arith

pub not_short_third : Takes 8 4 first_and_fourth 3 7 → ⊥
not_short_third takes = elim (takes.is_last (omega arith)) [
  | inl known ↦ no_last known.0 known.1
  | inr above ↦ let low = above 4 (codes "44444444") (in_both 4) in omega arith
]

pub first_is_alone : JoinsSeveral first_and_fourth → ⊥
first_is_alone (first, second, one, two) = let no : None ≡ Some second = sym (in_both 2) ∙ two in cc
