-- Names of options, and which of them are equal.
use Rattle.std.specs.Prelude.{◌≡◌, ◌⊎◌, ◌+◌, ◌*◌, ◌%◌, ◌^◌, ℕ, Bool, true, false, not, cond, nat_lt, List, [], ◌∷◌, ◌++◌, length, map as each}
use Rattle.tftp_packet.specs.OptionMaps.{lower}
use Rattle.tftp_packet.specs.Written.{IsString, pairs_of}
use Rattle.tftp_packet.specs.Faults.{AnyOf}

-- a name stands first in the bytes, and others after it
abbrev pub StandsFirst : List ℕ → List ℕ → List ℕ → Type 0
StandsFirst bytes name after = IsString name × ((text : List ℕ) × (bytes ≡ name ++ 0 ∷ (text ++ 0 ∷ after)))

-- the names of the options that bytes hold, in lower case
abbrev pub keys_of : List ℕ → List (List ℕ)
keys_of bytes = each (λ pair. lower pair.0) (pairs_of bytes)

-- some name is equal to a later one
abbrev pub HasTwo : List (List ℕ) → Type 0
HasTwo [] = ⊥
HasTwo (name ∷ names) = AnyOf (λ later. name ≡ later) names ⊎ HasTwo names

-- some name is equal to the one that follows it
abbrev pub HasTwoBeside : List (List ℕ) → Type 0
HasTwoBeside [] = ⊥
HasTwoBeside (name ∷ []) = ⊥
HasTwoBeside (name ∷ next ∷ names) = (name ≡ next) ⊎ HasTwoBeside (next ∷ names)

-- some later name is equal to one of these
abbrev pub HasCommon : List (List ℕ) → List (List ℕ) → Type 0
HasCommon names later = AnyOf (λ key. AnyOf (λ name. key ≡ name) names) later

-- those of the names for which the test holds
abbrev pub those : (List ℕ → Bool) → List (List ℕ) → List (List ℕ)
those test [] = []
those test (name ∷ names) = cond (test name) (name ∷ those test names) (those test names)

-- a name is long, of seven bytes or more, or it is not
abbrev pub is_of : Bool → List ℕ → Bool
is_of true name = nat_lt 6 (length name)
is_of false name = not (nat_lt 6 (length name))

-- the long names of the options that bytes hold, or the others, in lower case
abbrev pub keys_in : Bool → List ℕ → List (List ℕ)
keys_in long bytes = those (is_of long) (keys_of bytes)

-- the bytes of a name, two by two, mixed into a number of 64 bits
abbrev pub mixed : ℕ → List ℕ → ℕ
mixed mark [] = mark
mixed mark (b ∷ []) = ((mark + b) % 2 ^ 64) * 11400714819323198485 % 2 ^ 64
mixed mark (b ∷ c ∷ bs) = mixed (((mark + (b + 256 * c)) % 2 ^ 64) * 11400714819323198485 % 2 ^ 64) bs

-- the number of a name in lower case
unfoldable pub mark_of : List ℕ → ℕ
mark_of name = mixed 0 name

-- a number alone, where names are compared
abbrev pub as_name : ℕ → List ℕ
as_name mark = mark ∷ []
