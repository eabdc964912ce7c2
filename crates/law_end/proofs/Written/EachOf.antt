-- Lists of which each element has a property.
use Rattle.std.proofs.Common.{◌≡◌, ℕ, zero, suc, ◌<◌, ◌≤◌, List, [], ◌∷◌, ◌++◌, map as each, length, take, drop, reverse, Contains, inl, inr, refl, sym, subst, arith}
use Rattle.std.proofs.lemmas.List.{reverse-append}
use Rattle.std.specs.List.{AllByRecursion}
use Rattle.law_model.proofs.ModelLemmas.Members.{contains_cases, contains_none}

module _ {X : Type 0} (P : X → Type 0) where
  pub all_both : (xs ys : List X) → AllByRecursion P xs → AllByRecursion P ys → AllByRecursion P (xs ++ ys)
  all_both [] ys all more = more
  all_both (x ∷ xs) ys all more = (all.0, all_both xs ys all.1 more)

  pub all_take : (i : ℕ) (xs : List X) → AllByRecursion P xs → AllByRecursion P (take i xs)
  all_take zero xs all = tt
  all_take (suc i) [] all = tt
  all_take (suc i) (x ∷ xs) all = (all.0, all_take i xs all.1)

  pub all_drop : (i : ℕ) (xs : List X) → AllByRecursion P xs → AllByRecursion P (drop i xs)
  all_drop zero xs all = all
  all_drop (suc i) [] all = tt
  all_drop (suc i) (x ∷ xs) all = all_drop i xs all.1

  pub all_reverse : (xs : List X) → AllByRecursion P xs → AllByRecursion P (reverse xs)
  all_reverse [] all = tt
  all_reverse (x ∷ xs) all = subst (AllByRecursion P) (sym (reverse-append (x ∷ []) xs)) (all_both (reverse xs) (x ∷ []) (all_reverse xs all.1) (all.0, tt))

  pub all_contains : (xs : List X) (x : X) → AllByRecursion P xs → Contains xs x → P x
  all_contains [] x all at = absurd (contains_none x at)
  all_contains (y ∷ xs) x all at = elim (contains_cases y xs x at) [ inl is ↦ subst P is all.0 | inr later ↦ all_contains xs x all.1 later ]

pub all_each : {X Y : Type 0} (P : X → Type 0) (Q : Y → Type 0) (f : X → Y) → ((x : X) → P x → Q (f x)) → (xs : List X) → AllByRecursion P xs → AllByRecursion Q (each f xs)
all_each P Q f turn [] all = tt
all_each P Q f turn (x ∷ xs) all = (turn x all.0, all_each P Q f turn xs all.1)

-- each element is a byte
abbrev pub Bytes : List ℕ → Type 0
Bytes bytes = AllByRecursion (λ b. b < 256) bytes

pub drop_all : {X : Type 0} (i : ℕ) (xs : List X) → length xs ≤ i → drop i xs ≡ []
drop_all zero [] low = refl
drop_all (suc i) [] low = refl
drop_all zero (x ∷ xs) low = absurd (omega (arith, low))
drop_all (suc i) (x ∷ xs) low = drop_all i xs (omega (arith, low))
