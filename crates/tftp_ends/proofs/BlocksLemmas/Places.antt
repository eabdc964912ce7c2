-- Rows of places: cut, placed, numbered.
use Rattle.std.proofs.Common.{Ordering, Less, Equal, Greater, ◌≡◌, ◌≢◌, ◌+◌, ◌-◌, ◌*◌, ◌<◌, ◌≤◌, ℕ, zero, suc, Bool, List, [], ◌∷◌, ◌++◌, length, take, drop, Option, Some, None, true, false, cond, refl, ap, sym, subst, ◌∙◌, ◌⊎◌, inl, inr, arith, slice_index_or, slice_set}
use Rattle.std.specs.Ordering.{nat_cmp, is_eq, eq_by_cmp}
use Rattle.std.specs.Cmp.{nat_cmp_is}
use Rattle.std.proofs.lemmas.Cmp.{nat_cmp_total}
use Rattle.std.proofs.lemmas.Bool.{cases_lt}
use Rattle.std.proofs.lemmas.List.{append_assoc, length-take, length-drop, length-append, take_all, take-append-le, drop-append-le, drop-drop, nil_from_length}
use Rattle.std.specs.FinMap as map
use Rattle.tftp_ends.specs.Blocks.{Held, Slots, numbered, cut, placed, filled, IsEven, IsRow, IsWhole}

-- ---- a row by its numbers

is_equal : (r : Ordering) → is_eq r ≡ true → r ≡ Equal
is_equal Less e = absurd (cc)
is_equal Equal e = refl
is_equal Greater e = absurd (cc)

number_is : (q k : ℕ) → eq_by_cmp nat_cmp q k ≡ true → q ≡ k
number_is q k e = map.nat_cmp-IsAntisymmetric q k (is_equal (nat_cmp q k) e)

same_number : (k : ℕ) → eq_by_cmp nat_cmp k k ≡ true
same_number k = ap is_eq (sym (nat_cmp_is k k Equal refl))

pub got_same : (held : Held) (k : ℕ) (bytes : List ℕ) → map.get (map.insert held k bytes) k ≡ Some bytes
got_same held k bytes = map.get-insert nat_cmp_total held k bytes k ∙ ap (λ b. cond b (Some bytes) (map.get held k)) (same_number k)

pub got_other : (held : Held) (k : ℕ) (bytes : List ℕ) (q : ℕ) → q ≢ k → map.get (map.insert held k bytes) q ≡ map.get held q
got_other held k bytes q differs = map.get-insert nat_cmp_total held k bytes q ∙ by (eq_by_cmp nat_cmp q k) refl
  where
    by : (b : Bool) → eq_by_cmp nat_cmp q k ≡ b → cond (eq_by_cmp nat_cmp q k) (Some bytes) (map.get held q) ≡ map.get held q
    by true e = absurd (differs (number_is q k e))
    by false e = ap (λ b. cond b (Some bytes) (map.get held q)) e

pub below : (n : ℕ) (os : Slots) (q : ℕ) → q < n → map.get (numbered n os) q ≡ None
below n [] q low = map.get-empty nat_cmp q
below n (None ∷ os) q low = below (n + 1) os q (omega arith)
below n (Some x ∷ os) q low = got_other (numbered (n + 1) os) n x q (λ e. omega arith) ∙ below (n + 1) os q (omega arith)

pub at_number : (n : ℕ) (os : Slots) (i q : ℕ) → q ≡ n + i → map.get (numbered n os) q ≡ slice_index_or os i None
at_number n [] i q e = map.get-empty nat_cmp q
at_number n (None ∷ os) zero q e = below (n + 1) os q (omega arith)
at_number n (None ∷ os) (suc i) q e = at_number (n + 1) os i q (omega arith)
at_number n (Some x ∷ os) zero q e = subst (λ r. map.get (map.insert (numbered (n + 1) os) n x) r ≡ Some x) (let is : n ≡ q = omega arith in is) (got_same (numbered (n + 1) os) n x)
at_number n (Some x ∷ os) (suc i) q e = got_other (numbered (n + 1) os) n x q (λ f. omega arith) ∙ at_number (n + 1) os i q (omega arith)

pub none_at_0 : (os : Slots) → map.get (numbered 1 os) 0 ≡ None
none_at_0 os = below 1 os 0 (omega arith)

pub at_place : (os : Slots) (i : ℕ) → map.get (numbered 1 os) (i + 1) ≡ slice_index_or os i None
at_place os i = at_number 1 os i (i + 1) (omega arith)

pub at_block : (os : Slots) (k : ℕ) → 1 ≤ k → map.get (numbered 1 os) k ≡ slice_index_or os (k - 1) None
at_block os k low = at_number 1 os (k - 1) k (omega arith)

-- ---- a block at a place

pub placed_same : (os : Slots) (i : ℕ) (x : List ℕ) → slice_index_or (placed os i x) i None ≡ Some x
placed_same [] zero x = refl
placed_same [] (suc i) x = placed_same [] i x
placed_same (o ∷ os) zero x = refl
placed_same (o ∷ os) (suc i) x = placed_same os i x

pub placed_other : (os : Slots) (i : ℕ) (x : List ℕ) (j : ℕ) → j ≢ i → slice_index_or (placed os i x) j None ≡ slice_index_or os j None
placed_other [] zero x zero differs = absurd (differs refl)
placed_other [] zero x (suc j) differs = refl
placed_other [] (suc i) x zero differs = refl
placed_other [] (suc i) x (suc j) differs = placed_other [] i x j (λ e. differs (ap suc e))
placed_other (o ∷ os) zero x zero differs = absurd (differs refl)
placed_other (o ∷ os) zero x (suc j) differs = refl
placed_other (o ∷ os) (suc i) x zero differs = refl
placed_other (o ∷ os) (suc i) x (suc j) differs = placed_other os i x j (λ e. differs (ap suc e))

pub placed_set : {X : Type 0} (os : List (Option X)) (i : ℕ) (x : X) → i < length os → slice_set os i (Some x) ≡ placed os i x
placed_set [] i x within = absurd (omega arith)
placed_set (o ∷ os) zero x within = refl
placed_set (o ∷ os) (suc i) x within = ap (λ t. o ∷ t) (placed_set os i x (omega arith))

pub placed_more : {X : Type 0} (os : List (Option X)) (i : ℕ) (x : X) → length os < i → placed (os ++ None ∷ []) i x ≡ placed os i x
placed_more [] zero x past = absurd (omega arith)
placed_more [] (suc i) x past = refl
placed_more (o ∷ os) zero x past = absurd (omega arith)
placed_more (o ∷ os) (suc i) x past = ap (λ t. o ∷ t) (placed_more os i x (omega arith))

pub placed_end : {X : Type 0} (os : List (Option X)) (i : ℕ) (x : X) → length os ≡ i → os ++ Some x ∷ [] ≡ placed os i x
placed_end [] zero x e = refl
placed_end [] (suc i) x e = absurd (omega arith)
placed_end (o ∷ os) zero x e = absurd (omega arith)
placed_end (o ∷ os) (suc i) x e = ap (λ t. o ∷ t) (placed_end os i x (omega arith))

pub length_placed : (os : Slots) (i : ℕ) (x : List ℕ) → ((i < length os) × (length (placed os i x) ≡ length os)) ⊎ ((length os ≤ i) × (length (placed os i x) ≡ i + 1))
length_placed [] zero x = inr (omega arith, refl)
length_placed [] (suc i) x = elim (length_placed [] i x) [
  | inl (low, long) ↦ absurd (omega arith)
  | inr (high, long) ↦ inr (omega arith, omega arith)
]
length_placed (o ∷ os) zero x = inl (omega arith, refl)
length_placed (o ∷ os) (suc i) x = elim (length_placed os i x) [
  | inl (low, long) ↦ inl (omega arith, omega arith)
  | inr (high, long) ↦ inr (omega arith, omega arith)
]

some_placed : (os : Slots) (i : ℕ) (x : List ℕ) → 1 ≤ length (placed os i x)
some_placed [] zero x = omega arith
some_placed [] (suc i) x = omega arith
some_placed (o ∷ os) zero x = omega arith
some_placed (o ∷ os) (suc i) x = omega arith

pub even_placed : (b : ℕ) (os : Slots) (i : ℕ) (x : List ℕ) → IsEven b os → length x ≤ b → (i + 1 < length os → length x ≡ b) → (length os ≤ i → IsWhole b os) → IsEven b (placed os i x)
even_placed b [] zero x even fits exact whole = (fits, λ h. absurd (omega arith), tt)
even_placed b [] (suc i) x even fits exact whole = (some_placed [] i x, even_placed b [] i x tt fits (λ h. absurd (omega arith)) (λ h j y e. absurd (cc)))
even_placed b (None ∷ os) zero x even fits exact whole = (fits, λ h. exact (omega arith), even.1)
even_placed b (Some y ∷ os) zero x even fits exact whole = (fits, λ h. exact (omega arith), even.2)
even_placed b (None ∷ os) (suc i) x even fits exact whole = (some_placed os i x, even_placed b os i x even.1 fits (λ h. exact (omega arith)) (λ h j y e. whole (omega arith) (suc j) y e))
even_placed b (Some y ∷ os) (suc i) x even fits exact whole = (
  even.0,
  λ h. elim (cases_lt 0 (length os)) [
    | inl some ↦ even.1 (omega arith)
    | inr none ↦ whole (omega arith) 0 y refl
  ],
  even_placed b os i x even.2 fits (λ h. exact (omega arith)) (λ h j z e. whole (omega arith) (suc j) z e),
)

pub filled_placed : (os : Slots) (i : ℕ) (x : List ℕ) → slice_index_or os i None ≡ None → filled (placed os i x) ≡ suc (filled os)
filled_placed [] zero x e = refl
filled_placed [] (suc i) x e = filled_placed [] i x refl
filled_placed (None ∷ os) zero x e = refl
filled_placed (Some y ∷ os) zero x e = absurd (cc)
filled_placed (None ∷ os) (suc i) x e = filled_placed os i x e
filled_placed (Some y ∷ os) (suc i) x e = ap suc (filled_placed os i x e)

pub append_placed : (xs os : Slots) (i n : ℕ) (x : List ℕ) → n ≡ length xs + i → xs ++ placed os i x ≡ placed (xs ++ os) n x
append_placed [] os i n x e = let is : i ≡ n = omega arith in ap (λ m. placed os m x) is
append_placed (y ∷ xs) os i zero x e = absurd (omega arith)
append_placed (y ∷ xs) os i (suc n) x e = ap (λ t. y ∷ t) (append_placed xs os i n x (omega arith))

pub numbered_placed : (os : Slots) (i : ℕ) (x : List ℕ) → numbered 1 (placed os i x) ≡ map.insert (numbered 1 os) (i + 1) x
numbered_placed os i x = map.same_map nat_cmp_total map.nat_cmp-IsAntisymmetric _ _ by
  where
    by : (q : ℕ) → map.get (numbered 1 (placed os i x)) q ≡ map.get (map.insert (numbered 1 os) (i + 1) x) q
    by zero = none_at_0 (placed os i x) ∙ sym (got_other (numbered 1 os) (i + 1) x 0 (λ e. omega arith) ∙ none_at_0 os)
    by (suc j) = elim (cases_lt i j) [
      | inl more ↦ apart (λ e. omega arith)
      | inr rest ↦ elim (cases_lt j i) [
        | inl less ↦ apart (λ e. omega arith)
        | inr same ↦ let is : i ≡ j = omega arith in subst (λ m. map.get (numbered 1 (placed os i x)) (suc m) ≡ map.get (map.insert (numbered 1 os) (i + 1) x) (suc m)) is
            (at_number 1 (placed os i x) i (suc i) (omega arith) ∙ placed_same os i x
            ∙ sym (let next : i + 1 ≡ suc i = omega arith in ap (λ m. map.get (map.insert (numbered 1 os) m x) (suc i)) next ∙ got_same (numbered 1 os) (suc i) x))
      ]
    ]
      where
        apart : j ≢ i → map.get (numbered 1 (placed os i x)) (suc j) ≡ map.get (map.insert (numbered 1 os) (i + 1) x) (suc j)
        apart differs = at_number 1 (placed os i x) j (suc j) (omega arith) ∙ placed_other os i x j differs
            ∙ sym (got_other (numbered 1 os) (i + 1) x (suc j) (λ e. differs (omega arith)) ∙ at_number 1 os j (suc j) (omega arith))

-- ---- joined blocks

pub length_cut : (b n : ℕ) (js : List ℕ) → length (cut b n js) ≡ n
length_cut b zero js = refl
length_cut b (suc n) js = ap suc (length_cut b n (drop b js))

pub cut_push : (b n : ℕ) (js x : List ℕ) → length js ≡ n * b → length x ≤ b → cut b (suc n) (js ++ x) ≡ cut b n js ++ Some x ∷ []
cut_push b zero js x full fits = let none : js ≡ [] = nil_from_length js (omega arith) in
    rw none (ap (λ t. Some t ∷ []) (take_all b x fits))
cut_push b (suc n) js x full fits =
    let long : b ≤ length js = omega arith in
    let less = length-drop b js in
    ap (λ t. Some t ∷ cut b (suc n) (drop b (js ++ x))) (take-append-le b js x long)
    ∙ ap (λ t. Some (take b js) ∷ cut b (suc n) t) (drop-append-le b js x long)
    ∙ ap (λ t. Some (take b js) ∷ t) (cut_push b n (drop b js) x (omega arith) fits)

pub at_cut : (b n : ℕ) (js : List ℕ) (i : ℕ) → i < n → slice_index_or (cut b n js) i None ≡ Some (take b (drop (i * b) js))
at_cut b zero js i low = absurd (omega arith)
at_cut b (suc n) js zero low = let none : zero ≡ zero * b = omega arith in ap (λ m. Some (take b (drop m js))) none
at_cut b (suc n) js (suc i) low = at_cut b n (drop b js) i (omega arith) ∙ ap (λ t. Some (take b t)) (drop-drop (i * b) b js)
    ∙ (let is : b + i * b ≡ suc i * b = omega arith in ap (λ m. Some (take b (drop m js))) is)

pub row_step : (b : ℕ) (js : List ℕ) (n : ℕ) (x : List ℕ) (os : Slots) → IsRow b js n (Some x ∷ os) → IsRow b (js ++ x) (n + 1) os
row_step b js n x os row =
    let long = length-append js x in
    let full = row.full (omega arith) in
    let fits = row.even.0 in
    record {
      full = λ h. let exact = row.even.1 h in omega arith;
      most = omega arith;
      least = omega arith;
      even = row.even.2;
    }

pub slots_step : (b : ℕ) (js : List ℕ) (n : ℕ) (x : List ℕ) (os : Slots) → IsRow b js n (Some x ∷ os) → cut b (n + 1) (js ++ x) ++ os ≡ cut b n js ++ Some x ∷ os
slots_step b js n x os row = (let next : n + 1 ≡ suc n = omega arith in ap (λ m. cut b m (js ++ x) ++ os) next) ∙ ap (λ t. t ++ os) (cut_push b n js x (row.full (omega arith)) row.even.0) ∙ append_assoc (cut b n js) (Some x ∷ []) os

-- ---- what is known of each place of a row

pub row_even : (b : ℕ) (js : List ℕ) (n : ℕ) (ring : Slots) → IsRow b js n ring → IsEven b (cut b n js ++ ring)
row_even b js zero ring row = row.even
row_even b js (suc n) ring row =
    let taken = length-take b js in
    let dropped = length-drop b js in
    let most = row.most in
    let least = row.least in (
      omega arith,
      λ h. let long : b ≤ length js = by h in omega arith,
      row_even b (drop b js) n ring (record {
        full = λ h. let full = row.full h in omega arith;
        most = omega arith;
        least = omega arith;
        even = row.even;
      }),
    )
  where
    by : 1 ≤ length (cut b n (drop b js) ++ ring) → b ≤ length js
    by h = elim (cases_lt 0 (length ring)) [
      | inl ringed ↦ let full = row.full (omega arith) in omega arith
      | inr none ↦
          let long = length-append (cut b n (drop b js)) ring in
          let long_cut = length_cut b n (drop b js) in
          let least = row.least in
          let one : 1 ≤ n = omega arith in
          at_least n one least
    ]
      where
        at_least : (m : ℕ) → 1 ≤ m → suc m * b ≤ length js + b → b ≤ length js
        at_least zero one least = absurd (omega arith)
        at_least (suc m) one least = omega arith

pub even_fits : (b : ℕ) (os : Slots) → IsEven b os → (i : ℕ) (x : List ℕ) → slice_index_or os i None ≡ Some x → length x ≤ b
even_fits b [] even i x e = absurd (cc)
even_fits b (None ∷ os) even zero x e = absurd (cc)
even_fits b (None ∷ os) even (suc i) x e = even_fits b os even.1 i x e
even_fits b (Some y ∷ os) even zero x e = let is : y ≡ x = cc in subst (λ t. length t ≤ b) is even.0
even_fits b (Some y ∷ os) even (suc i) x e = even_fits b os even.2 i x e

pub even_exact : (b : ℕ) (os : Slots) → IsEven b os → (i : ℕ) (x : List ℕ) → slice_index_or os i None ≡ Some x → i + 1 < length os → length x ≡ b
even_exact b [] even i x e more = absurd (omega arith)
even_exact b (None ∷ os) even zero x e more = absurd (cc)
even_exact b (None ∷ os) even (suc i) x e more = even_exact b os even.1 i x e (omega arith)
even_exact b (Some y ∷ os) even zero x e more = let is : y ≡ x = cc in subst (λ t. length t ≡ b) is (even.1 (omega arith))
even_exact b (Some y ∷ os) even (suc i) x e more = even_exact b os even.2 i x e (omega arith)

pub even_last : (b : ℕ) (os : Slots) → IsEven b os → (i : ℕ) → length os ≡ suc i → (x : List ℕ) × (slice_index_or os i None ≡ Some x)
even_last b [] even i e = absurd (omega arith)
even_last b (None ∷ os) even zero e = let some = even.0 in absurd (omega arith)
even_last b (None ∷ os) even (suc i) e = even_last b os even.1 i (omega arith)
even_last b (Some y ∷ os) even zero e = (y, refl)
even_last b (Some y ∷ os) even (suc i) e = even_last b os even.2 i (omega arith)

pub past : (os : Slots) (i : ℕ) (x : List ℕ) → slice_index_or os i None ≡ Some x → i < length os
past [] i x e = absurd (cc)
past (o ∷ os) zero x e = omega arith
past (o ∷ os) (suc i) x e = let rest = past os i x e in omega arith

pub placed_first : (os : Slots) (x : List ℕ) → placed os 0 x ≡ Some x ∷ drop 1 os
placed_first [] x = refl
placed_first (o ∷ os) x = refl

-- ---- a place behind the others

pub placed_behind : {X : Type 0} (slots : List (Option X)) (block : X) → placed slots (length slots) block ≡ slots ++ Some block ∷ []
placed_behind [] block = refl
placed_behind (slot ∷ slots) block = ap (λ rest. slot ∷ rest) (placed_behind slots block)
