-- An element of a list with one more in front.
use Rattle.std.proofs.Common.{◌≡◌, zero, suc, ◌⊎◌, List, [], ◌∷◌, Contains, inl, inr, refl, arith}

module _ {X : Type 0} where
  pub contains_first : (x : X) (xs : List X) → Contains (x ∷ xs) x
  contains_first x xs = (0, omega arith, refl)

  pub contains_later : (y : X) (xs : List X) (x : X) → Contains xs x → Contains (y ∷ xs) x
  contains_later y xs x (k, low, is) = (suc k, omega arith, is)

  pub contains_cases : (y : X) (xs : List X) (x : X) → Contains (y ∷ xs) x → (y ≡ x) ⊎ Contains xs x
  contains_cases y xs x (zero, low, is) = inl is
  contains_cases y xs x (suc k, low, is) = inr (k, omega arith, is)

  pub contains_none : (x : X) → Contains [] x → ⊥
  contains_none x (k, low, is) = absurd (omega arith)
