-- Lists: what holds of all, and of those that pass a test.
use Rattle.std.proofs.Common.{◌≡◌, ◌⊎◌, zero, suc, Bool, true, false, List, [], ◌∷◌, ◌++◌, Contains, inl, inr, refl, sym, ap, subst, ◌∙◌, map, reverse, filter, arith}
use Rattle.std.specs.List.{All, AllByRecursion, flat_map, list_any}
use Rattle.std.proofs.lemmas.Bool.{false≢true, or_cases, or_left, or_right}
use Rattle.std.proofs.lemmas.List.{reverse-append}
use Rattle.law_model.proofs.ModelLemmas.Members.{contains_first, contains_later, contains_cases, contains_none}
use Rattle.audit_flows.proofs.LinesLemmas.Lines.{by_test}
use Rattle.audit_spared.proofs.SparedLemmas.Basics.{all_first, all_last}
use Rattle.audit_spared.proofs.FairLemmas.Thinned.{filter_kept, filter_dropped, kept_or_not}

module _ {X : Type 0} where
  pub all_from : (P : X → Type 0) (xs : List X) → ((x : X) → Contains xs x → P x) → AllByRecursion P xs
  all_from P [] each = tt
  all_from P (x ∷ xs) each = (each x (contains_first x xs), all_from P xs (λ y there. each y (contains_later x xs y there)))

  pub all_at : (P : X → Type 0) (xs : List X) (x : X) → AllByRecursion P xs → Contains xs x → P x
  all_at P [] x all there = absurd (contains_none x there)
  all_at P (y ∷ xs) x all there = elim (contains_cases y xs x there) [
    | inl this ↦ subst P this all.0
    | inr later ↦ all_at P xs x all.1 later
  ]

  pub any_filter : (f test : X → Bool) (xs : List X) → list_any f (filter test xs) ≡ true → list_any f xs ≡ true
  any_filter f test [] any = any
  any_filter f test (x ∷ xs) any = kept_or_not test x
      (λ is. elim (or_cases (f x) (list_any f (filter test xs)) (subst (λ l. list_any f l ≡ true) (filter_kept test x xs is) any)) [
        | inl this ↦ or_left (f x) (list_any f xs) this
        | inr later ↦ or_right (f x) (list_any f xs) (any_filter f test xs later)
      ])
      (λ off. or_right (f x) (list_any f xs) (any_filter f test xs (subst (λ l. list_any f l ≡ true) (filter_dropped test x xs off) any)))

  pub by_recursion : (P : X → Type 0) (xs : List X) → All P xs → AllByRecursion P xs
  by_recursion P [] all = tt
  by_recursion P (x ∷ xs) all = (all zero x (omega arith), by_recursion P xs (λ k d low. all (suc k) d (omega arith)))

  pub filter_all : (test : X → Bool) (xs : List X) → AllByRecursion (λ x. test x ≡ true) (filter test xs)
  filter_all test [] = tt
  filter_all test (x ∷ xs) = kept_or_not test x
      (λ is. subst (AllByRecursion (λ y. test y ≡ true)) (sym (filter_kept test x xs is)) (is, filter_all test xs))
      (λ off. subst (AllByRecursion (λ y. test y ≡ true)) (sym (filter_dropped test x xs off)) (filter_all test xs))

  pub filter_with : (Q : X → Type 0) (test : X → Bool) (xs : List X) → AllByRecursion Q xs → AllByRecursion (λ x. (test x ≡ true) × Q x) (filter test xs)
  filter_with Q test [] all = tt
  filter_with Q test (x ∷ xs) all = kept_or_not test x
      (λ is. subst (AllByRecursion (λ y. (test y ≡ true) × Q y)) (sym (filter_kept test x xs is)) ((is, all.0), filter_with Q test xs all.1))
      (λ off. subst (AllByRecursion (λ y. (test y ≡ true) × Q y)) (sym (filter_dropped test x xs off)) (filter_with Q test xs all.1))

  -- what holds of all of some lists holds of all of each
  pub all_flat : (P : X → Type 0) (each : List (List X)) → AllByRecursion P (flat_map (λ xs. xs) each) → AllByRecursion (λ xs. AllByRecursion P xs) each
  all_flat P [] all = tt
  all_flat P (xs ∷ each) all = (all_first P xs (flat_map (λ ys. ys) each) all, all_flat P each (all_last P xs (flat_map (λ ys. ys) each) all))

  -- what holds of all that pass holds of each that passes
  pub passing : (P : X → Type 0) (test : X → Bool) (xs : List X) → AllByRecursion P (filter test xs) → AllByRecursion (λ x. test x ≡ true → P x) xs
  passing P test [] all = tt
  passing P test (x ∷ xs) all = kept_or_not test x
      (λ is. let both = subst (AllByRecursion P) (filter_kept test x xs is) all in ((λ t. both.0), passing P test xs both.1))
      (λ off. ((λ t. absurd (false≢true (sym off ∙ t))), passing P test xs (subst (AllByRecursion P) (filter_dropped test x xs off) all)))

  -- one of them passes, or none does
  pub one_passes : (test : X → Bool) (xs : List X) → ((x : X) × Contains xs x × (test x ≡ true)) ⊎ ((x : X) → Contains xs x → test x ≡ false)
  one_passes test [] = inr (λ x there. absurd (contains_none x there))
  one_passes test (x ∷ xs) = by_test (test x)
      (λ is. inl (x, contains_first x xs, is))
      (λ off. elim (one_passes test xs) [
        | inl found ↦ inl (found.0, contains_later x xs found.0 found.1, found.2)
        | inr none ↦ inr (λ y there. elim (contains_cases x xs y there) [
          | inl this ↦ subst (λ z. test z ≡ false) this off
          | inr later ↦ none y later
        ])
      ])

module _ {X Y : Type 0} (f : X → Y) where
  pub map_append : (xs ys : List X) → map f (xs ++ ys) ≡ map f xs ++ map f ys
  map_append [] ys = refl
  map_append (x ∷ xs) ys = ap (λ l. f x ∷ l) (map_append xs ys)

  pub map_reversed : (xs : List X) → map f (reverse xs) ≡ reverse (map f xs)
  map_reversed [] = refl
  map_reversed (x ∷ xs) = ap (map f) (reverse-append (x ∷ []) xs) ∙ map_append (reverse xs) (x ∷ []) ∙ ap (λ l. l ++ (f x ∷ [])) (map_reversed xs) ∙ sym (reverse-append (f x ∷ []) (map f xs))
