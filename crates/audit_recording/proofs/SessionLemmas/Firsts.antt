-- Of a list of what is each once: which stand there, with one more.
use Rattle.std.proofs.Common.{◌≡◌, ◌≤◌, ◌<◌, ◌++◌, ◌||◌, ◌∷◌, ℕ, zero, suc, Bool, true, false, cond, List, [], length, take, refl, sym, ap, subst, ◌∙◌, arith}
use Rattle.std.specs.List.{AllByRecursion, list_any}
use Rattle.std.proofs.lemmas.Bool.{false≢true}
use Rattle.audit_recording.proofs.LossesLemmas.Keeping.{by_test}
use Rattle.audit_recording.specs.Session.Firsts.{firsts}

pub or_left : (b c : Bool) → b ≡ true → (b || c) ≡ true
or_left true c is = refl
or_left false c is = absurd (false≢true is)

pub or_right : (b c : Bool) → c ≡ true → (b || c) ≡ true
or_right true c is = refl
or_right false c is = is

pub or_false : (b c : Bool) → b ≡ false → c ≡ false → (b || c) ≡ false
or_false true c is also = is
or_false false c is also = also

pub or_rest : (b c : Bool) → b ≡ false → (b || c) ≡ c
or_rest true c off = absurd (false≢true (sym off))
or_rest false c off = refl

nothing_more : {A : Type 0} (fs : List A) → fs ++ [] ≡ fs
nothing_more [] = refl
nothing_more (f ∷ fs) = ap (λ l. f ∷ l) (nothing_more fs)

module _ {A : Type 0} (same : A → A → Bool) where
  abbrev pub Turns : Type 0
  Turns = (x y : A) → same x y ≡ true → same y x ≡ true

  abbrev pub Passes : Type 0
  Passes = (x y f : A) → same x y ≡ true → same y f ≡ true → same x f ≡ true

  -- none of them is like it
  abbrev pub NoneLike : A → List A → Type 0
  NoneLike x fs = AllByRecursion (λ f. same x f ≡ false) fs

  -- no later one is like an earlier one
  abbrev pub NoTwo : List A → Type 0
  NoTwo [] = Unit {0}
  NoTwo (f ∷ fs) = AllByRecursion (λ g. same g f ≡ false) fs × NoTwo fs

  pub none_any : (x : A) (fs : List A) → NoneLike x fs → list_any (same x) fs ≡ false
  none_any x [] are = refl
  none_any x (f ∷ fs) are = or_false (same x f) (list_any (same x) fs) are.0 (none_any x fs are.1)

  pub any_none : (x : A) (fs : List A) → list_any (same x) fs ≡ false → NoneLike x fs
  any_none x [] none = tt
  any_none x (f ∷ fs) none = by_test (same x f)
      (λ is. absurd (false≢true (sym none ∙ or_left (same x f) (list_any (same x) fs) is)))
      (λ off. (off, any_none x fs (sym (or_rest (same x f) (list_any (same x) fs) off) ∙ none)))

  all_both : (P : A → Type 0) (fs gs : List A) → AllByRecursion P fs → AllByRecursion P gs → AllByRecursion P (fs ++ gs)
  all_both P [] gs are also = also
  all_both P (f ∷ fs) gs are also = (are.0, all_both P fs gs are.1 also)

  all_first : (P : A → Type 0) (n : ℕ) (fs : List A) → AllByRecursion P fs → AllByRecursion P (take n fs)
  all_first P zero fs are = tt
  all_first P (suc n) [] are = tt
  all_first P (suc n) (f ∷ fs) are = (are.0, all_first P n fs are.1)

  -- ---- with one more

  pub known : (x : A) (xs : List A) → list_any (same x) xs ≡ true → firsts same (x ∷ xs) ≡ firsts same xs
  known x xs is = ap (λ b. firsts same xs ++ cond b [] (x ∷ [])) is ∙ nothing_more (firsts same xs)

  pub new : (x : A) (xs : List A) → list_any (same x) xs ≡ false → firsts same (x ∷ xs) ≡ firsts same xs ++ x ∷ []
  new x xs off = ap (λ b. firsts same xs ++ cond b [] (x ∷ [])) off

  -- what is like none in the list is like none of the firsts
  none_first : (x : A) (xs : List A) → NoneLike x xs → NoneLike x (firsts same xs)
  none_first x [] are = tt
  none_first x (y ∷ ys) are = by_test (list_any (same y) ys)
      (λ is. subst (NoneLike x) (sym (known y ys is)) (none_first x ys are.1))
      (λ off. subst (NoneLike x) (sym (new y ys off)) (all_both (λ f. same x f ≡ false) (firsts same ys) (y ∷ []) (none_first x ys are.1) (are.0, tt)))

  no_two_more : (fs : List A) (x : A) → NoTwo fs → NoneLike x fs → NoTwo (fs ++ x ∷ [])
  no_two_more [] x are none = (tt, tt)
  no_two_more (f ∷ fs) x are none = (all_both (λ g. same g f ≡ false) fs (x ∷ []) are.0 (none.0, tt), no_two_more fs x are.1 none.1)

  pub no_two : (xs : List A) → NoTwo (firsts same xs)
  no_two [] = tt
  no_two (x ∷ xs) = by_test (list_any (same x) xs)
      (λ is. subst NoTwo (sym (known x xs is)) (no_two xs))
      (λ off. subst NoTwo (sym (new x xs off)) (no_two_more (firsts same xs) x (no_two xs) (none_first x xs (any_none x xs off))))

  pub no_two_taken : (n : ℕ) (fs : List A) → NoTwo fs → NoTwo (take n fs)
  no_two_taken zero fs are = tt
  no_two_taken (suc n) [] are = tt
  no_two_taken (suc n) (f ∷ fs) are = (all_first (λ g. same g f ≡ false) n fs are.0, no_two_taken n fs are.1)

  -- what is like one of the firsts is like one in the list
  pub any_in_all : (x : A) (xs : List A) → list_any (same x) (firsts same xs) ≡ true → list_any (same x) xs ≡ true
  any_in_all x xs is = by_test (list_any (same x) xs)
      (λ there. there)
      (λ off. absurd (false≢true (sym (none_any x (firsts same xs) (none_first x xs (any_none x xs off))) ∙ is)))

  -- what is like none of some is not like one that is like one of them
  not_like : Passes → (x y : A) (ys : List A) → list_any (same y) ys ≡ true → NoneLike x ys → same x y ≡ false
  not_like passes x y [] some none = absurd (false≢true some)
  not_like passes x y (z ∷ zs) some none = by_test (same y z)
      (λ is. by_test (same x y) (λ like. absurd (false≢true (sym none.0 ∙ passes x y z like is))) (λ off. off))
      (λ off. not_like passes x y zs (sym (or_rest (same y z) (list_any (same y) zs) off) ∙ some) none.1)

  parts : (x y : A) (fs : List A) → NoneLike x (fs ++ y ∷ []) → (same x y ≡ false) × NoneLike x fs
  parts x y [] are = (are.0, tt)
  parts x y (f ∷ fs) are = let rest = parts x y fs are.1 in (rest.0, (are.0, rest.1))

  -- what is like none of the firsts is like none in the list
  pub none_in_all : Passes → (x : A) (xs : List A) → NoneLike x (firsts same xs) → NoneLike x xs
  none_in_all passes x [] none = tt
  none_in_all passes x (y ∷ ys) none = by_test (list_any (same y) ys)
      (λ is. let older = none_in_all passes x ys (subst (NoneLike x) (known y ys is) none) in (not_like passes x y ys is older, older))
      (λ off. let both = parts x y (firsts same ys) (subst (NoneLike x) (new y ys off) none) in (both.0, none_in_all passes x ys both.1))

  -- ---- the first ones alone

  any_taken : (x : A) (n : ℕ) (fs : List A) → list_any (same x) (take n fs) ≡ true → list_any (same x) fs ≡ true
  any_taken x zero fs is = absurd (false≢true is)
  any_taken x (suc n) [] is = is
  any_taken x (suc n) (f ∷ fs) is = by_test (same x f)
      (λ like. or_left (same x f) (list_any (same x) fs) like)
      (λ off. or_right (same x f) (list_any (same x) fs) (any_taken x n fs (sym (or_rest (same x f) (list_any (same x) (take n fs)) off) ∙ is)))

  take_full : (n : ℕ) (fs gs : List A) → n ≤ length (take n fs) → take n (fs ++ gs) ≡ take n fs
  take_full zero fs gs long = refl
  take_full (suc n) [] gs long = absurd (omega (arith, long))
  take_full (suc n) (f ∷ fs) gs long = ap (λ l. f ∷ l) (take_full n fs gs (omega (arith, long)))

  pub take_short : (n : ℕ) (fs : List A) → length (take n fs) < n → take n fs ≡ fs
  take_short zero fs short = absurd (omega (arith, short))
  take_short (suc n) [] short = refl
  take_short (suc n) (f ∷ fs) short = ap (λ l. f ∷ l) (take_short n fs (omega (arith, short)))

  take_one_more : (n : ℕ) (fs : List A) (x : A) → length (take n fs) < n → take n (fs ++ x ∷ []) ≡ take n fs ++ x ∷ []
  take_one_more zero fs x short = absurd (omega (arith, short))
  take_one_more (suc zero) [] x short = refl
  take_one_more (suc (suc n)) [] x short = refl
  take_one_more (suc n) (f ∷ fs) x short = ap (λ l. f ∷ l) (take_one_more n fs x (omega (arith, short)))

  -- where there are as many as are kept, they stay
  pub stay : (n : ℕ) (x : A) (xs : List A) → n ≤ length (take n (firsts same xs)) → take n (firsts same (x ∷ xs)) ≡ take n (firsts same xs)
  stay n x xs long = take_full n (firsts same xs) (cond (list_any (same x) xs) [] (x ∷ [])) long

  -- so they do where one is like it
  pub stay_known : (n : ℕ) (x : A) (xs : List A) → list_any (same x) (take n (firsts same xs)) ≡ true → take n (firsts same (x ∷ xs)) ≡ take n (firsts same xs)
  stay_known n x xs is = ap (take n) (known x xs (any_in_all x xs (any_taken x n (firsts same xs) is)))

  pub none_is_like : Passes → (n : ℕ) (x : A) (xs : List A) → length (take n (firsts same xs)) < n → list_any (same x) (take n (firsts same xs)) ≡ false → NoneLike x xs
  none_is_like passes n x xs short none =
      none_in_all passes x xs (any_none x (firsts same xs) (sym (ap (list_any (same x)) (take_short n (firsts same xs) short)) ∙ none))

  -- and otherwise it is one more
  pub one_more : Passes → (n : ℕ) (x : A) (xs : List A) → length (take n (firsts same xs)) < n → list_any (same x) (take n (firsts same xs)) ≡ false
      → take n (firsts same (x ∷ xs)) ≡ take n (firsts same xs) ++ x ∷ []
  one_more passes n x xs short none =
      ap (take n) (new x xs (none_any x xs (none_is_like passes n x xs short none))) ∙ take_one_more n (firsts same xs) x short
