-- What is kept of a list, and what stands before an ERROR in it.
use Rattle.std.proofs.Common.{◌≡◌, Bool, true, false, List, [], ◌∷◌, Contains, inl, inr, refl, sym, subst, ap, ◌∙◌, ◌&&◌, not}
use Rattle.std.specs.List.{list_any}
use Rattle.std.proofs.lemmas.Bool.{true≢false, or_parts, cases_Bool}
use Rattle.tftp_packet.specs.{End, Client}
use Rattle.law_model.proofs.ModelLemmas.Members.{contains_first, contains_later, contains_cases, contains_none}
use Rattle.law_tap.specs.{Tests, is_left_out, kept_of, before_error}

module _ {X : Type 0} where
  pub any_here : (test : X → Bool) (x : X) (xs : List X) → test x ≡ true → list_any test (x ∷ xs) ≡ true
  any_here test x xs is = rw (is) refl

  pub any_skip : (test : X → Bool) (x : X) (xs : List X) → test x ≡ false → list_any test (x ∷ xs) ≡ list_any test xs
  any_skip test x xs is = rw (is) refl

  pub any_more : (test : X → Bool) (x : X) (xs : List X) → list_any test xs ≡ true → list_any test (x ∷ xs) ≡ true
  any_more test x xs is = elim (cases_Bool (test x)) [ inl now ↦ any_here test x xs now | inr not ↦ any_skip test x xs not ∙ is ]

  pub any_of : (test : X → Bool) (xs : List X) (x : X) → Contains xs x → test x ≡ true → list_any test xs ≡ true
  any_of test [] x at is = absurd (contains_none x at)
  any_of test (y ∷ xs) x at is = elim (contains_cases y xs x at) [ inl now ↦ any_here test y xs (ap test now ∙ is) | inr before ↦ any_more test y xs (any_of test xs x before is) ]

  pub none_of : (test : X → Bool) (xs : List X) (x : X) → Contains xs x → list_any test xs ≡ false → test x ≡ false
  none_of test xs x at none = elim (cases_Bool (test x)) [ inl is ↦ absurd (true≢false (sym (any_of test xs x at is) ∙ none)) | inr not ↦ not ]

  pub some_of : (test : X → Bool) (xs : List X) → list_any test xs ≡ true → (x : X) × Contains xs x × (test x ≡ true)
  some_of test [] is = absurd (true≢false (sym is))
  some_of test (y ∷ xs) is = elim (cases_Bool (test y)) [
    | inl now ↦ (y, contains_first y xs, now)
    | inr not ↦ let r = some_of test xs (sym (any_skip test y xs not) ∙ is) in (r.0, contains_later y xs r.0 r.1, r.2)
  ]

  pub none_in : (test : X → Bool) (xs : List X) → ((x : X) → Contains xs x → test x ≡ false) → list_any test xs ≡ false
  none_in test xs all = elim (cases_Bool (list_any test xs)) [ inl is ↦ let r = some_of test xs is in absurd (true≢false (sym r.2 ∙ all r.0 r.1)) | inr not ↦ not ]

-- ---- before an ERROR

module _ {X : Type 0} (t : Tests X) (e : End) where
  pub before_all : (xs : List X) → list_any (t.ends e) xs ≡ false → before_error t e xs ≡ xs
  before_all [] none = refl
  before_all (x ∷ xs) none = rw (none) refl

  pub before_less : (x : X) (xs : List X) → list_any (t.ends e) (x ∷ xs) ≡ true → before_error t e (x ∷ xs) ≡ before_error t e xs
  before_less x xs some = rw (some) refl

  none_before : (x : X) (xs : List X) → list_any (t.ends e) (x ∷ xs) ≡ false → list_any (t.ends e) xs ≡ false
  none_before x xs none = elim (cases_Bool (list_any (t.ends e) xs)) [ inl is ↦ absurd (true≢false (sym (any_more (t.ends e) x xs is) ∙ none)) | inr not ↦ not ]

  pub before_more : (x : X) (xs : List X) (y : X) → Contains (before_error t e xs) y → Contains (before_error t e (x ∷ xs)) y
  before_more x xs y at = elim (cases_Bool (list_any (t.ends e) (x ∷ xs))) [
    | inl some ↦ subst (λ v. Contains v y) (sym (before_less x xs some)) at
    | inr none ↦ subst (λ v. Contains v y) (sym (before_all (x ∷ xs) none)) (contains_later x xs y (subst (λ v. Contains v y) (before_all xs (none_before x xs none)) at))
  ]

  pub before_there : (xs : List X) (y : X) → Contains (before_error t e xs) y → Contains xs y
  before_there [] y at = at
  before_there (x ∷ xs) y at = elim (cases_Bool (list_any (t.ends e) (x ∷ xs))) [
    | inl some ↦ contains_later x xs y (before_there xs y (subst (λ v. Contains v y) (before_less x xs some) at))
    | inr none ↦ subst (λ v. Contains v y) (before_all (x ∷ xs) none) at
  ]

-- ---- what is kept

module _ {X : Type 0} (t : Tests X) (r : End) where
  pub kept_out : (x : X) (xs : List X) → is_left_out t r x (kept_of t r xs) ≡ true → kept_of t r (x ∷ xs) ≡ kept_of t r xs
  kept_out x xs out = rw (out) refl

  pub kept_in : (x : X) (xs : List X) → is_left_out t r x (kept_of t r xs) ≡ false → kept_of t r (x ∷ xs) ≡ x ∷ kept_of t r xs
  kept_in x xs not = rw (not) refl

  pub kept_there : (xs : List X) (y : X) → Contains (kept_of t r xs) y → Contains xs y
  kept_there [] y at = at
  kept_there (x ∷ xs) y at = elim (cases_Bool (is_left_out t r x (kept_of t r xs))) [
    | inl out ↦ contains_later x xs y (kept_there xs y (subst (λ v. Contains v y) (kept_out x xs out) at))
    | inr stays ↦ elim (contains_cases x (kept_of t r xs) y (subst (λ v. Contains v y) (kept_in x xs stays) at)) [
      | inl now ↦ subst (Contains (x ∷ xs)) now (contains_first x xs)
      | inr before ↦ contains_later x xs y (kept_there xs y before)
    ]
  ]

  pub kept_more : (x : X) (xs : List X) (y : X) → Contains (kept_of t r xs) y → Contains (kept_of t r (x ∷ xs)) y
  kept_more x xs y at = elim (cases_Bool (is_left_out t r x (kept_of t r xs))) [
    | inl out ↦ subst (λ v. Contains v y) (sym (kept_out x xs out)) at
    | inr stays ↦ subst (λ v. Contains v y) (sym (kept_in x xs stays)) (contains_later x (kept_of t r xs) y at)
  ]

  -- no request and no ERROR: never left out
  stays_in : (x : X) (rest : List X) → t.asks x ≡ false → ((e : End) → t.ends e x ≡ false) → is_left_out t r x rest ≡ false
  stays_in x rest plain quiet = rw (plain, quiet r, quiet Client) refl

  pub kept_plain : (xs : List X) (y : X) → Contains xs y → t.asks y ≡ false → ((e : End) → t.ends e y ≡ false) → Contains (kept_of t r xs) y
  kept_plain [] y at plain quiet = at
  kept_plain (x ∷ xs) y at plain quiet = elim (contains_cases x xs y at) [
    | inl now ↦ subst (λ v. Contains v y) (sym (kept_in x xs (subst (λ z. is_left_out t r z (kept_of t r xs) ≡ false) (sym now) (stays_in y (kept_of t r xs) plain quiet)))) (subst (λ z. Contains (x ∷ kept_of t r xs) z) now (contains_first x (kept_of t r xs)))
    | inr before ↦ kept_more x xs y (kept_plain xs y before plain quiet)
  ]

  -- some request stays
  pub kept_asks : (xs : List X) → ((x : X) → t.asks x ≡ true → (e : End) → t.ends e x ≡ false) → list_any t.asks xs ≡ true → list_any t.asks (kept_of t r xs) ≡ true
  kept_asks [] quiet some = some
  kept_asks (x ∷ xs) quiet some = elim (cases_Bool (t.asks x)) [
    | inr other ↦ let found = some_of t.asks (kept_of t r xs) (kept_asks xs quiet (sym (any_skip t.asks x xs other) ∙ some)) in any_of t.asks (kept_of t r (x ∷ xs)) found.0 (kept_more x xs found.0 found.1) found.2
    | inl now ↦ elim (cases_Bool (list_any t.asks (kept_of t r xs))) [
      | inl before ↦ let found = some_of t.asks (kept_of t r xs) before in any_of t.asks (kept_of t r (x ∷ xs)) found.0 (kept_more x xs found.0 found.1) found.2
      | inr first ↦ subst (λ v. list_any t.asks v ≡ true) (sym (kept_in x xs (rw (first, quiet x now r, quiet x now Client, now) refl))) (any_here t.asks x (kept_of t r xs) now)
    ]
  ]

  -- no ERROR of the receiver stays
  pub kept_quiet : (xs : List X) → list_any (t.ends r) (kept_of t r xs) ≡ false
  kept_quiet [] = refl
  kept_quiet (x ∷ xs) = elim (cases_Bool (is_left_out t r x (kept_of t r xs))) [
    | inl out ↦ ap (list_any (t.ends r)) (kept_out x xs out) ∙ kept_quiet xs
    | inr stays ↦
        let own = or_parts (t.ends r x) (t.ends Client x && not (list_any t.answers (kept_of t r xs))) (or_parts (t.asks x && list_any t.asks (kept_of t r xs)) _ stays).1 in
        ap (list_any (t.ends r)) (kept_in x xs stays) ∙ any_skip (t.ends r) x (kept_of t r xs) own.0 ∙ kept_quiet xs
  ]
