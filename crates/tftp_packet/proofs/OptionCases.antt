-- What bytes hold as options, once they end with zero.
use Rattle.std.proofs.Common.{◌≡◌, ◌⊎◌, inl, inr, ℕ, ◌%◌, List, [], ◌∷◌, length, sym, ap, ◌∙◌, count_by, ◌==◌}
use Rattle.tftp_packet.specs.{AreStrings, strings, pair_strings, pairs_of, AreOptions, EndsWithZero, AnyOf, HasRepeat, OptionFault, OddOptions, EmptyOptionName, DuplicateOption}
use Rattle.tftp_packet.proofs.Strings.{cut_strings, zeros_of_strings}
use Rattle.tftp_packet.proofs.PairStrings.{held, all_of_none, apart_of_no_repeat}

abbrev All : List ℕ → Type 0
All bytes = (all : List (List ℕ)) × (bytes ≡ strings all) × AreStrings all

cut : (bytes : List ℕ) → (bytes ≡ []) ⊎ EndsWithZero bytes → All bytes
cut bytes (inl none) = ([], none, tt)
cut bytes (inr ends) = let parts = cut_strings ends.0 in (parts.0 ∷ parts.1, ends.1 ∙ parts.2, parts.3)

zeros : (bytes : List ℕ) (all : All bytes) → count_by (λ b. b == 0) bytes ≡ length all.0
zeros bytes all = ap (count_by (λ b. b == 0)) all.1 ∙ zeros_of_strings all.0 all.2

module _ (bytes : List ℕ) (ended : (bytes ≡ []) ⊎ EndsWithZero bytes) where
  pub odd : count_by (λ b. b == 0) bytes % 2 ≡ 1 → OptionFault bytes OddOptions
  odd is = let all = cut bytes ended in (all.0, all.1, all.2, ap (λ n. n % 2) (sym (zeros bytes all)) ∙ is)

  module _ (even : count_by (λ b. b == 0) bytes % 2 ≡ 1 → ⊥) where
    pub whole : (bytes ≡ strings (pair_strings (pairs_of bytes))) × AreStrings (pair_strings (pairs_of bytes))
    whole = let all = cut bytes ended in held bytes all.0 all.1 all.2 (λ is. even (ap (λ n. n % 2) (zeros bytes all) ∙ is))

    pub unnamed : AnyOf (λ pair. pair.0 ≡ []) (pairs_of bytes) → OptionFault bytes EmptyOptionName
    unnamed empty = (pairs_of bytes, whole.0, whole.1, empty)

    module _ (none : AnyOf (λ pair. pair.0 ≡ []) (pairs_of bytes) → ⊥) where
      pub repeated : HasRepeat (pairs_of bytes) → OptionFault bytes DuplicateOption
      repeated repeat = (pairs_of bytes, whole.0, whole.1, all_of_none (λ pair. pair.0 ≡ []) (pairs_of bytes) none, repeat)

      pub options : (HasRepeat (pairs_of bytes) → ⊥) → AreOptions (pairs_of bytes)
      options single = (whole.1, all_of_none (λ pair. pair.0 ≡ []) (pairs_of bytes) none, apart_of_no_repeat (pairs_of bytes) single)
