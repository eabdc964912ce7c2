-- The first that holds is one, and is found by testing one after another.
use Rattle.std.proofs.Common.{◌≡◌, ℕ, zero, suc, ◌+◌, ◌-◌, ◌≤◌, inl, inr, sym, subst, ap, ◌∙◌, arith}
use Rattle.std.proofs.lemmas.Bool.{cases_lt, cases_eq}
use Rattle.tftp_packet.specs.{IsFirst, NoneBelow}

module _ {X : Type 0} (number : X → ℕ) (Holds : X → Type 0) where
  -- two that are first have one number
  pub first_number : (x y : X) → IsFirst number Holds x → IsFirst number Holds y → number x ≡ number y
  first_number x y one other = elim (cases_lt (number x) (number y)) [
    | inl below ↦ absurd (other.1 x below one.0)
    | inr above ↦ elim (cases_lt (number y) (number x)) [ inl over ↦ absurd (one.1 y over other.0) | inr under ↦ omega arith ]
  ]

  -- where each is told by its number
  module _ (at : ℕ → X) (told : (x : X) → at (number x) ≡ x) where
    pub first_one : (x y : X) → IsFirst number Holds x → IsFirst number Holds y → x ≡ y
    first_one x y one other = sym (told x) ∙ ap at (first_number x y one other) ∙ told y

    pub none_more : (n : ℕ) → NoneBelow number Holds n → (Holds (at n) → ⊥) → NoneBelow number Holds (n + 1)
    none_more n before none other low holds = elim (cases_eq (number other) n) [
      | inl same ↦ none (subst Holds (sym (ap at (sym same) ∙ told other)) holds)
      | inr apart ↦ before other (omega (arith, apart)) holds
    ]

    -- this, if none of so many from a number on holds
    abbrev pub Unless : ℕ → ℕ → Type 0 → Type 0
    Unless zero n This = This
    Unless (suc more) n This = (Holds (at n) → ⊥) → Unless more (n + 1) This

    unless_by : (more n : ℕ) (This : Type 0) → NoneBelow number Holds n → (NoneBelow number Holds (n + more) → This) → Unless more n This
    unless_by zero n This before this = this (λ other low. before other (omega (arith, low)))
    unless_by (suc more) n This before this = λ none. unless_by more (n + 1) This (none_more n before none) (λ all. this (λ other low. all other (omega (arith, low))))

    -- none of so many from the least number on holds, if each does not
    pub none_unless : (least : ℕ) → ((x : X) → least ≤ number x) → (more : ℕ) → Unless more least (NoneBelow number Holds (least + more))
    none_unless least most more = unless_by more least (NoneBelow number Holds (least + more)) (λ other low. let up = most other in absurd (omega arith)) (λ all. all)

    -- what holds is the first, unless one before it holds
    pub first_unless : (least : ℕ) → ((x : X) → least ≤ number x) → (x : X) → Holds x → Unless (number x - least) least (IsFirst number Holds x)
    first_unless least most x holds =
        unless_by (number x - least) least (IsFirst number Holds x) (λ other low. let up = most other in absurd (omega arith)) (λ all. (holds, λ other low. let up = most x in all other (omega (arith, up, low))))
