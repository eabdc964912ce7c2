-- Numbers that rise are known by which they are.
use Rattle.std.proofs.Common.{rules, suc, zero, length, Some, arith, Less, ◌≡◌, ◌<◌, ◌≤◌, ◌==◌, ◌||◌, ◌⊎◌, ◌++◌, ℕ, Bool, true, false, true≢false, List, [], ◌∷◌, inl, inr, refl, sym, ap, subst, ◌∙◌}
use Rattle.std.specs.List.{AllByRecursion, list_any, slice_get}
use Rattle.std.specs.List.Sorted.{IsStrictlySortedBy}
use Rattle.std.specs.Ordering.{MatchOrdering, nat_cmp}
use Rattle.std.proofs.lemmas.Cmp.{ranked}
use Rattle.std.proofs.lemmas.Bool.{cases_lt, eq-eqb, eqb-true, ne_eqb}
use Rattle.std.proofs.lemmas.Map.Keys.{sorted_head, sorted_tail}

abbrev pub has : ℕ → List ℕ → Bool
has n xs = list_any (λ k. n == k) xs

or_either : {P : Type 0} (a b : Bool) → (a || b) ≡ true → (a ≡ true → P) → (b ≡ true → P) → P
or_either true b is one other = one refl
or_either false b is one other = other is

below : (a b : ℕ) → nat_cmp a b ≡ Less → a < b
below a b is = subst (λ r. MatchOrdering r (a < b) (a ≡ b) (b < a)) is (ranked a b (nat_cmp a b) refl)

not_it : (n x : ℕ) (xs : List ℕ) → n < x → has n (x ∷ xs) ≡ has n xs
not_it n x xs lt = ap (λ b. b || has n xs) (ne_eqb n x (λ is. omega (arith, is)))

none_up_to : (n a : ℕ) (xs : List ℕ) → n ≤ a → AllByRecursion (λ y. nat_cmp a y ≡ Less) xs → has n xs ≡ false
none_up_to n a [] up all = refl
none_up_to n a (x ∷ xs) up all =
    let lt : a < x = below a x all.0 in
    let under : n < x = omega arith in
    not_it n x xs under ∙ none_up_to n a xs up all.1

it_has : (x : ℕ) (xs : List ℕ) → has x (x ∷ xs) ≡ true
it_has x xs = ap (λ b. b || has x xs) (eq-eqb x x refl)

abbrev pub Rises : List ℕ → Type 0
Rises xs = IsStrictlySortedBy nat_cmp xs

-- the first of the one is not below the first of the other
not_before : (x y : ℕ) (xs ys : List ℕ) → Rises (y ∷ ys) → has x (x ∷ xs) ≡ has x (y ∷ ys) → y ≤ x
not_before x y xs ys rises same = by (cases_lt x y) where
  by : (x < y) ⊎ (y ≤ x) → y ≤ x
  by (inr le) = le
  by (inl lt) = absurd (true≢false (sym (it_has x xs) ∙ (same ∙ (not_it x y ys lt ∙ none_up_to x y ys (omega arith) (sorted_head nat_cmp y ys rises)))))

same_tail : (x n : ℕ) (xs ys : List ℕ) → Rises (x ∷ xs) → Rises (x ∷ ys) → has n (x ∷ xs) ≡ has n (x ∷ ys) → has n xs ≡ has n ys
same_tail x n xs ys one other same = by (cases_lt x n) where
  by : (x < n) ⊎ (n ≤ x) → has n xs ≡ has n ys
  by (inr le) = none_up_to n x xs le (sorted_head nat_cmp x xs one) ∙ sym (none_up_to n x ys le (sorted_head nat_cmp x ys other))
  by (inl lt) =
      let apart : (n == x) ≡ false = ne_eqb n x (λ is. omega (arith, is)) in
      sym (ap (λ b. b || has n xs) apart) ∙ (same ∙ ap (λ b. b || has n ys) apart)

pub same_rising : (xs ys : List ℕ) → Rises xs → Rises ys → ((n : ℕ) → has n xs ≡ has n ys) → xs ≡ ys
same_rising [] [] one other same = refl
same_rising [] (y ∷ ys) one other same = absurd (true≢false (sym (it_has y ys) ∙ sym (same y)))
same_rising (x ∷ xs) [] one other same = absurd (true≢false (sym (it_has x xs) ∙ same x))
same_rising (x ∷ xs) (y ∷ ys) one other same =
    let up : y ≤ x = not_before x y xs ys other (same x) in
    let down : x ≤ y = not_before y x ys xs one (sym (same y)) in
    let is : x ≡ y = omega arith in
    let rest : xs ≡ ys = same_rising xs ys (sorted_tail nat_cmp x xs one) (sorted_tail nat_cmp y ys other)
    (λ n. same_tail x n xs ys one (subst (λ k. Rises (k ∷ ys)) (sym is) other) (same n ∙ ap (λ k. has n (k ∷ ys)) (sym is))) in
    ap (λ k. k ∷ xs) is ∙ ap (λ l. y ∷ l) rest

less : (a b : ℕ) → a < b → nat_cmp a b ≡ Less
less a b lt = search (rules, arith)

pub all_snoc : (P : ℕ → Type 0) (xs : List ℕ) (n : ℕ) → AllByRecursion P xs → P n → AllByRecursion P (xs ++ n ∷ [])
all_snoc P [] n all is = (is, tt)
all_snoc P (x ∷ xs) n all is = (all.0, all_snoc P xs n all.1 is)

pub rises_snoc : (xs : List ℕ) (n : ℕ) → Rises xs → AllByRecursion (λ y. y < n) xs → Rises (xs ++ n ∷ [])
unfolding IsStrictlySortedBy
rises_snoc [] n rises all = (tt, tt)
rises_snoc (x ∷ xs) n rises all = (all_snoc (λ y. nat_cmp x y ≡ Less) xs n rises.0 (less x n all.0), rises_snoc xs n rises.1 all.1)

pub all_longer : (m n : ℕ) (xs : List ℕ) → m ≤ n → AllByRecursion (λ y. y < m) xs → AllByRecursion (λ y. y < n) xs
all_longer m n [] up all = tt
all_longer m n (x ∷ xs) up all = (let lt : x < m = all.0 in omega arith, all_longer m n xs up all.1)

pub below_at : (n : ℕ) (xs : List ℕ) (k key : ℕ) → AllByRecursion (λ y. y < n) xs → slice_get xs k ≡ Some key → key < n
below_at n [] k key all is = absurd (cc)
below_at n (x ∷ xs) zero key all is = let same : x ≡ key = cc in subst (λ y. y < n) same all.0
below_at n (x ∷ xs) (suc k) key all is = below_at n xs k key all.1 is

-- a number among these and one more is among them, or the last
pub at_snoc : (xs : List ℕ) (n k key : ℕ) → slice_get (xs ++ n ∷ []) k ≡ Some key → (slice_get xs k ≡ Some key) ⊎ ((k ≡ length xs) × (n ≡ key))
at_snoc [] n zero key is = inr (refl, cc)
at_snoc [] n (suc k) key is = absurd (cc)
at_snoc (x ∷ xs) n zero key is = inl is
at_snoc (x ∷ xs) n (suc k) key is = by (at_snoc xs n k key is) where
  by : (slice_get xs k ≡ Some key) ⊎ ((k ≡ length xs) × (n ≡ key)) → (slice_get (x ∷ xs) (suc k) ≡ Some key) ⊎ ((suc k ≡ length (x ∷ xs)) × (n ≡ key))
  by (inl there) = inl there
  by (inr last) = inr (ap suc last.0, last.1)

pub rises_none : Rises []
unfolding IsStrictlySortedBy
rises_none = tt

later_place : (n x : ℕ) (xs : List ℕ) → (k : ℕ) × (slice_get xs k ≡ Some n) → (k : ℕ) × (slice_get (x ∷ xs) k ≡ Some n)
later_place n x xs there = (suc there.0, there.1)

-- one of them has its place
pub place_of_one : (n : ℕ) (xs : List ℕ) → has n xs ≡ true → (k : ℕ) × (slice_get xs k ≡ Some n)
place_of_one n [] is = absurd (true≢false (sym is))
place_of_one n (x ∷ xs) is = or_either (n == x) (has n xs) is
    (λ here. (zero, ap Some (sym (eqb-true n x here))))
    (λ rest. later_place n x xs (place_of_one n xs rest))
