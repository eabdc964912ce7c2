-- What a vector tells of the bytes that two lists begin with.
use Rattle.std.proofs.Common.{◌≡◌, ℕ, zero, suc, ◌%◌, ◌≤◌, ◌^◌, Bool, not, inl, inr, List, [], ◌∷◌, length, map, take, refl, sym, ap, ◌∙◌, arith}
use Rattle.std.specs.List.{prefix_len}
use Rattle.std.specs.Simd.Lanes.{zip2, mask_l, top}
use Rattle.std.proofs.lemmas.Bool.{cases_eq, eq-eqb, ne_eqb}
use Rattle.std.proofs.lemmas.List.{length-take-le, map-id, take-take}
use Rattle.std.proofs.lemmas.Simd.{leading_from_mask_l, length-zip2, mask_l-mod, tops_compared, trailing_mask_l}
use lib.Count.{count_trailing_zeros}
use lib.Dec.{eqb}
use mathlib.Core.Bool.{cond}
use mir.Syntax.{w8}

-- of each two bytes whether they differ
abbrev differ : List ℕ → List ℕ → List Bool
differ xs ys = zip2 (λ x y. not (eqb x y)) xs ys

-- before the first two that differ all are the same
same_front : (n : ℕ) (xs ys : List ℕ) → n ≤ prefix_len (λ d. not d) (differ xs ys) → take n xs ≡ take n ys
same_front zero xs ys le = refl
same_front (suc n) [] ys le = absurd (omega arith)
same_front (suc n) (x ∷ xs) [] le = absurd (omega arith)
same_front (suc n) (x ∷ xs) (y ∷ ys) le =
    elim (cases_eq x y) [
      | inl same ↦
          let e = eq-eqb x y same in
          let more = rw e at le in
          λ i. same i ∷ same_front n xs ys (omega (arith, more)) i
      | inr other ↦
          let e = ne_eqb x y other in
          let none = rw e at le in
          absurd (omega (arith, none))
    ]

-- the lowest bit that is set is that of the first two that differ
lowest : (n : ℕ) (ds : List Bool) → length ds ≡ 32 → n ≤ 32 → n ≤ count_trailing_zeros 64 (mask_l ds) → n ≤ prefix_len (λ d. not d) ds
lowest n ds long few le =
    let as_mapped : mask_l (map (λ d. d) ds) ≡ mask_l ds = ap mask_l (map-id ds) in
    elim (cases_eq (mask_l ds) 0) [
      | inl none ↦ let all = leading_from_mask_l (λ d. d) ds (as_mapped ∙ none) in omega (arith, all, long)
      | inr some ↦
          let first = trailing_mask_l (λ d. d) 64 ds (omega (arith, long)) (omega (arith, as_mapped, some)) in
          let same = ap (count_trailing_zeros 64) as_mapped in
          omega (arith, first, same)
    ]

-- 32 bytes are compared at once
pub alike : (n : ℕ) (xs ys : List ℕ) → 32 ≤ length xs → 32 ≤ length ys → n ≤ 32
    → n ≤ count_trailing_zeros 64 (mask_l (map (top 7) (zip2 (λ x y. cond (not (eqb x y)) 255 0) (take 32 xs) (take 32 ys))) % 2 ^ 64) → take n xs ≡ take n ys
alike n xs ys long other few le =
    let front = length-take-le 32 xs long in
    let behind = length-take-le 32 ys other in
    let tops = tops_compared w8 (λ x y. not (eqb x y)) (take 32 xs) (take 32 ys) in
    let count = length-zip2 (λ x y. not (eqb x y)) (take 32 xs) (take 32 ys) (front ∙ sym behind) ∙ front in
    let bits = ap (λ m. mask_l m % 2 ^ 64) tops ∙ mask_l-mod (differ (take 32 xs) (take 32 ys)) 64 (omega (arith, count)) in
    let same = same_front n (take 32 xs) (take 32 ys) (lowest n _ count few (omega (arith, le, ap (count_trailing_zeros 64) bits))) in
    sym (take-take n 32 xs few) ∙ same ∙ take-take n 32 ys few
