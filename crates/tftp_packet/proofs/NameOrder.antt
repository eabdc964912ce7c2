-- Names in order: two are equal just where two side by side are.
use Rattle.std.proofs.Common.{◌≡◌, inl, inr, ◌⊎◌, ◌↔◌, ℕ, zero, suc, ◌+◌, ◌<◌, ◌≤◌, Bool, true, false, cond, List, [], ◌∷◌, ◌++◌, length, get_or, refl, sym, ap, subst, ◌∙◌, true≢false, nat_cmp, is_lt, arith, bytes_eq, map as each, IsPermutation, Result, Ok, Err, is_ok, MatchBool}
use Rattle.std.specs.List.{sum_by}
use Rattle.std.specs.List.Sorted.{IsSortedBy, IsSearchInRange, IsBinarySearchResult}
use Rattle.std.specs.Cmp.{tied_itself}
use Rattle.std.specs.Ordering.{ordering_reverse}
use Rattle.std.specs.Cmp.Lexicographic.{slice_cmp}
use Rattle.std.specs.declared.cmp.Ordering.{Ordering}
use Rattle.std.specs.declared.cmp.Ordering.TheVariants.{Less, Equal, Greater}
use Rattle.std.specs.FinMap.{nat_cmp-IsAntisymmetric, slice_cmp-IsAntisymmetric}
use Rattle.std.proofs.lemmas.Bool.{cases_Bool, cases_lt}
use Rattle.std.proofs.lemmas.Cmp.{nat_list_cmp_total}
use Rattle.std.proofs.lemmas.List.Sums.{sum_by-cons}
use Rattle.std.proofs.lemmas.List.Sorted.{ranks_by, sorted_far, searchable_from_sorted, sum_by-IsPermutation, IsPermutation-sym}
use Rattle.std.proofs.lemmas.Slice.Eq.{bytes_eq-Decides}
use Rattle.tftp_packet.specs.{lower, Pair, AnyOf, HasRepeat, HasTwo, HasTwoBeside, HasCommon}
use Rattle.tftp_packet.proofs.NameLists.{any_of, two_of_common}
use Rattle.tftp_packet.proofs.Maps.{bytes_eq_yes}

-- ---- the names of options
pub any_named : (name : List ℕ) (pairs : List Pair) → AnyOf (λ pair. lower name ≡ lower pair.0) pairs → AnyOf (λ later. lower name ≡ later) (each (λ pair. lower pair.0) pairs)
any_named name [] any = any
any_named name (pair ∷ pairs) (inl here) = inl here
any_named name (pair ∷ pairs) (inr later) = inr (any_named name pairs later)

any_option : (name : List ℕ) (pairs : List Pair) → AnyOf (λ later. lower name ≡ later) (each (λ pair. lower pair.0) pairs) → AnyOf (λ pair. lower name ≡ lower pair.0) pairs
any_option name [] any = any
any_option name (pair ∷ pairs) (inl here) = inl here
any_option name (pair ∷ pairs) (inr later) = inr (any_option name pairs later)

pub two_of_repeat : (pairs : List Pair) → HasRepeat pairs → HasTwo (each (λ pair. lower pair.0) pairs)
two_of_repeat [] repeat = repeat
two_of_repeat (pair ∷ pairs) (inl here) = inl (any_named pair.0 pairs here)
two_of_repeat (pair ∷ pairs) (inr later) = inr (two_of_repeat pairs later)

pub repeat_of_two : (pairs : List Pair) → HasTwo (each (λ pair. lower pair.0) pairs) → HasRepeat pairs
repeat_of_two [] two = two
repeat_of_two (pair ∷ pairs) (inl here) = inl (any_option pair.0 pairs here)
repeat_of_two (pair ∷ pairs) (inr later) = inr (repeat_of_two pairs later)

-- ---- how often a name stands in a list: an order of the list counts for nothing
abbrev is_one : List ℕ → List ℕ → ℕ
is_one key name = cond (bytes_eq name key) 1 0

one_itself : (key : List ℕ) → is_one key key ≡ 1
one_itself key = ap (λ b. cond b 1 0) (bytes_eq_yes key key refl)

one_or_none : (key name : List ℕ) → (key ≡ name) ⊎ (is_one key name ≡ 0)
one_or_none key name = elim (cases_Bool (bytes_eq name key)) [ inl same ↦ inl (sym ((bytes_eq-Decides name key).0 same)) | inr other ↦ inr (ap (λ b. cond b 1 0) other) ]

counted : (key : List ℕ) (names : List (List ℕ)) → AnyOf (λ later. key ≡ later) names → 1 ≤ sum_by (is_one key) names
counted key [] any = absurd any
counted key (name ∷ names) (inl here) = omega (arith, sum_by-cons (is_one key) name names, ap (is_one key) (sym here) ∙ one_itself key)
counted key (name ∷ names) (inr later) = omega (arith, sum_by-cons (is_one key) name names, counted key names later)

any_counted : (key : List ℕ) (names : List (List ℕ)) → 1 ≤ sum_by (is_one key) names → AnyOf (λ later. key ≡ later) names
any_counted key [] many = absurd (omega arith)
any_counted key (name ∷ names) many = elim (one_or_none key name) [
  | inl same ↦ inl same
  | inr none ↦ inr (any_counted key names (omega (arith, many, none, sum_by-cons (is_one key) name names)))
]

two_counted : (names : List (List ℕ)) → HasTwo names → (key : List ℕ) × (2 ≤ sum_by (is_one key) names)
two_counted [] two = absurd two
two_counted (name ∷ names) (inl here) = (name, omega (arith, sum_by-cons (is_one name) name names, one_itself name, counted name names here))
two_counted (name ∷ names) (inr later) = let found = two_counted names later in (found.0, omega (arith, sum_by-cons (is_one found.0) name names, found.1))

at_most_one : (b : Bool) → cond b 1 0 ≤ 1
at_most_one true = omega arith
at_most_one false = omega arith

two_of_count : (key : List ℕ) (names : List (List ℕ)) → 2 ≤ sum_by (is_one key) names → HasTwo names
two_of_count key [] many = absurd (omega arith)
two_of_count key (name ∷ names) many = elim (one_or_none key name) [
  | inl same ↦ inl (subst (λ k. AnyOf (λ later. k ≡ later) names) same (any_counted key names (omega (arith, many, sum_by-cons (is_one key) name names, at_most_one (bytes_eq name key)))))
  | inr none ↦ inr (two_of_count key names (omega (arith, many, none, sum_by-cons (is_one key) name names)))
]

pub two_moved : (xs ys : List (List ℕ)) → IsPermutation xs ys → HasTwo xs → HasTwo ys
two_moved xs ys moved two =
    let found = two_counted xs two in
    two_of_count found.0 ys (omega (arith, found.1, sum_by-IsPermutation (is_one found.0) xs ys moved))

pub any_moved : (key : List ℕ) (xs ys : List (List ℕ)) → IsPermutation xs ys → AnyOf (λ later. key ≡ later) xs → AnyOf (λ later. key ≡ later) ys
any_moved key xs ys moved any = any_counted key ys (omega (arith, counted key xs any, sum_by-IsPermutation (is_one key) xs ys moved))

common_moved : (xs ys later : List (List ℕ)) → IsPermutation xs ys → HasCommon xs later → HasCommon ys later
common_moved xs ys later moved common = any_of (λ key. AnyOf (λ x. key ≡ x) xs) (λ key. AnyOf (λ y. key ≡ y) ys) later (λ key any. any_moved key xs ys moved any) common

-- what is asked of names in order is asked of them as they came
pub common_decides : (b : Bool) (xs ys later : List (List ℕ)) → (b ≡ true) ↔ HasCommon ys later → (HasTwo ys → ⊥) → IsPermutation xs ys → MatchBool b (HasTwo (xs ++ later)) ((HasTwo xs → ⊥) × (HasCommon xs later → ⊥))
common_decides true xs ys later is none moved = two_of_common xs later (common_moved ys xs later (IsPermutation-sym xs ys moved) (is.0 refl))
common_decides false xs ys later is none moved = ((λ two. none (two_moved xs ys moved two)), λ common. true≢false (sym (is.1 (common_moved xs ys later moved common))))

-- ---- order
tied : (x y : List ℕ) (o : Ordering) → o ≡ slice_cmp nat_cmp x y → is_lt o ≡ false → is_lt (slice_cmp nat_cmp y x) ≡ false → x ≡ y
tied x y Less e up down = absurd (true≢false up)
tied x y Equal e up down = slice_cmp-IsAntisymmetric nat_cmp-IsAntisymmetric x y (sym e)
tied x y Greater e up down = absurd (true≢false (ap is_lt (ap ordering_reverse e ∙ sym (nat_list_cmp_total.antisymm y x)) ∙ down))

pub two_of_beside : (names : List (List ℕ)) → HasTwoBeside names → HasTwo names
two_of_beside [] two = two
two_of_beside (x ∷ []) two = absurd two
two_of_beside (x ∷ y ∷ names) (inl here) = inl (inl here)
two_of_beside (x ∷ y ∷ names) (inr later) = inr (two_of_beside (y ∷ names) later)

module _ {X : Type 0} (key : X → List ℕ) where
  abbrev below : X → X → Bool
  below x y = is_lt (slice_cmp nat_cmp (key x) (key y))

  place_of_any : (name : List ℕ) (xs : List X) (d : X) → AnyOf (λ later. name ≡ later) (each key xs) → (k : ℕ) × (k < length xs) × (name ≡ key (get_or xs k d))
  place_of_any name [] d any = absurd any
  place_of_any name (x ∷ xs) d (inl here) = (0, omega arith, here)
  place_of_any name (x ∷ xs) d (inr later) = let found = place_of_any name xs d later in (suc found.0, omega (arith, found.1), found.2)

  sorted_tail : (x : X) (xs : List X) → IsSortedBy below (x ∷ xs) → IsSortedBy below xs
  sorted_tail x xs up k d low high =
      subst (λ n. below (get_or (x ∷ xs) n d) (get_or xs k d) ≡ false) {x = suc k + 1} {y = suc (k + 1)} (omega arith) (up (suc k) d (omega arith) (omega arith))

  beside_first : (x y : X) (xs : List X) → IsSortedBy below (x ∷ y ∷ xs) → AnyOf (λ later. key x ≡ later) (each key (y ∷ xs)) → key x ≡ key y
  beside_first x y xs up any =
      let found = place_of_any (key x) (y ∷ xs) x any in
      let far = sorted_far below (ranks_by nat_list_cmp_total key) (y ∷ xs) (sorted_tail x (y ∷ xs) up) 0 found.0 x (omega arith) found.1 in
      let near : below y x ≡ false = up 0 x (omega arith) (omega arith) in
      tied (key x) (key y) (slice_cmp nat_cmp (key x) (key y)) refl (subst (λ n. is_lt (slice_cmp nat_cmp n (key y)) ≡ false) (sym found.2) far) near

  pub beside_of_two : (xs : List X) → IsSortedBy below xs → HasTwo (each key xs) → HasTwoBeside (each key xs)
  beside_of_two [] up two = two
  beside_of_two (x ∷ []) up (inl here) = here
  beside_of_two (x ∷ []) up (inr later) = later
  beside_of_two (x ∷ y ∷ xs) up (inl here) = inl (beside_first x y xs up here)
  beside_of_two (x ∷ y ∷ xs) up (inr later) = inr (beside_of_two (y ∷ xs) (sorted_tail x (y ∷ xs) up) later)

-- ---- a name is looked for among names in order
module _ {X : Type 0} (key : X → List ℕ) where
  any_at : (name : List ℕ) (xs : List X) (i : ℕ) → i < length xs → ((d : X) → name ≡ key (get_or xs i d)) → AnyOf (λ later. name ≡ later) (each key xs)
  any_at name [] i h is = absurd (omega arith)
  any_at name (x ∷ xs) zero h is = inl (is x)
  any_at name (x ∷ xs) (suc i) h is = inr (any_at name xs i (omega arith) is)

  no_order : (name : List ℕ) (x : X) (o : Ordering) → name ≡ key x → slice_cmp nat_cmp (key x) name ≡ o → o ≡ Equal
  no_order name x o same is = sym is ∙ ap (slice_cmp nat_cmp (key x)) same ∙ tied_itself nat_list_cmp_total (key x)

  pub searched_decides : (name : List ℕ) (xs : List X) (r : Result ℕ ℕ) (b : Bool) → b ≡ is_ok r → IsSearchInRange r (length xs) → IsBinarySearchResult (λ y. slice_cmp nat_cmp (key y) name) xs r → IsSortedBy (below key) xs
      → (b ≡ true) ↔ AnyOf (λ later. name ≡ later) (each key xs)
  searched_decides name xs (Ok i) b e range found up = ((λ is. any_at name xs i range (λ d. sym (slice_cmp-IsAntisymmetric nat_cmp-IsAntisymmetric (key (get_or xs i d)) name (found d)))), λ any. e)
  searched_decides name [] (Err i) b e range found up = ((λ is. absurd (true≢false (sym is ∙ e))), λ any. absurd any)
  searched_decides name (x ∷ xs) (Err i) b e range found up = (
    (λ is. absurd (true≢false (sym is ∙ e))),
    λ any.
        let place = place_of_any key name (x ∷ xs) x any in
        let point = found (searchable_from_sorted nat_list_cmp_total key (x ∷ xs) name up) in
        elim (cases_lt place.0 i) [
          | inl low ↦ absurd (let o = no_order name (get_or (x ∷ xs) place.0 x) Less place.2 (point.0 place.0 x (omega arith) low) in let f : ⊥ = cc in f)
          | inr high ↦ absurd (let o = no_order name (get_or (x ∷ xs) place.0 x) Greater place.2 (point.1 place.0 x high place.1) in let f : ⊥ = cc in f)
        ],
  )

-- ---- the end of one name
pub ended : (xs ys : List ℕ) → (xs ≡ []) ⊎ (ys ≡ []) → nat_cmp (length xs) (length ys) ≡ slice_cmp nat_cmp (lower xs) (lower ys)
ended [] [] end = refl
ended [] (y ∷ ys) end = search (arith)
ended (x ∷ xs) [] end = search (arith)
ended (x ∷ xs) (y ∷ ys) (inl e) = absurd (let f : ⊥ = cc in f)
ended (x ∷ xs) (y ∷ ys) (inr e) = absurd (let f : ⊥ = cc in f)
