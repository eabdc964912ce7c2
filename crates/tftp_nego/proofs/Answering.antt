-- Numbers that answer numbers.
use Rattle.std.proofs.Common.{◌≡◌, ◌⊎◌, inl, inr, ℕ, List, Option, Some, None, refl, sym, subst, ◌∙◌, option_and_then}
use Rattle.std.specs.FinMap as map
use Rattle.tftp_packet.specs.{OptionMap, OptionValue, Num, Text, number_in}
use Rattle.tftp_nego.specs.{HasOption, both, numbers_of, IsAnswered, IsUnanswered, AreNot}

pub answered_none : (May : ℕ → ℕ → Type 0) (asked given : OptionMap) (name : List ℕ) → map.get given name ≡ None → IsAnswered May asked given name
answered_none May asked given name none value e = let same : None ≡ Some value = sym none ∙ e in absurd (let x : ⊥ = cc in x)

no_number : (May : ℕ → ℕ → Type 0) (asked given : Option OptionValue) (value : OptionValue) → None ≡ both (option_and_then number_in asked) (option_and_then number_in given) → given ≡ Some value
    → (asked ≡ None) ⊎ ((was : OptionValue) × (asked ≡ Some was) × AreNot May was value)
no_number May None given value e found = inl refl
no_number May (Some (Text text)) given value e found = inr (Text text, refl, tt)
no_number May (Some (Num n)) None value e found = absurd (let x : ⊥ = cc in x)
no_number May (Some (Num n)) (Some (Num a)) value e found = absurd (let x : ⊥ = cc in x)
no_number May (Some (Num n)) (Some (Text text)) value e found = let same : Text text ≡ value = cc in inr (Num n, refl, subst (AreNot May (Num n)) same tt)

pub unanswered : (May : ℕ → ℕ → Type 0) (asked given : OptionMap) (name : List ℕ) → None ≡ numbers_of asked given name → HasOption given name → IsUnanswered May asked given name
unanswered May asked given name e (value, found) = (value, found, no_number May (map.get asked name) (map.get given name) value e found)
