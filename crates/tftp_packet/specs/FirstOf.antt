-- The first that holds of what stands in an order, such as rules and faults: each has its number there.
use Rattle.std.specs.Prelude.{ℕ, ◌<◌}

-- none of a lower number holds
abbrev pub NoneBelow : {X : Type 0} → (X → ℕ) → (X → Type 0) → ℕ → Type 0
NoneBelow number Holds n = (other : _) → number other < n → Holds other → ⊥

-- it holds, and none that stands before it does
abbrev pub IsFirst : {X : Type 0} → (X → ℕ) → (X → Type 0) → X → Type 0
IsFirst number Holds x = Holds x × NoneBelow number Holds (number x)
