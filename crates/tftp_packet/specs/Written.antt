-- How strings and options are written one after another (RFC 1350, section 5; RFC 2347, section "Packet Formats").
use Rattle.std.specs.Prelude.{◌≡◌, ◌≢◌, ℕ, List, [], ◌∷◌, ◌++◌, map as each, flat_map, Option, Some, None, cond, nat_eq, bytes_eq}
use Rattle.std.specs.List.{AllByRecursion}
use Rattle.std.specs.FinMap as map
use Rattle.tftp_packet.specs.OptionMaps.{OptionMap, lower, value_of}
use Rattle.tftp_packet.specs.Messages.{RequestParts}
use Rattle.tftp_packet.specs.declared.kinds.Side.{Side}
use Rattle.tftp_packet.specs.declared.kinds.Mode.{Mode}

-- bytes without zero
abbrev pub IsString : List ℕ → Type 0
IsString s = AllByRecursion (λ b. b ≢ 0) s

abbrev pub AreStrings : List (List ℕ) → Type 0
AreStrings ss = AllByRecursion IsString ss

-- a string and the zero byte that ends it
abbrev pub terminated : List ℕ → List ℕ
terminated s = s ++ 0 ∷ []

-- strings one after another
abbrev pub strings : List (List ℕ) → List ℕ
strings ss = flat_map terminated ss

-- an option as it is written: its name, in any letter case, and its value
abbrev pub Pair : Type 0
Pair = List ℕ × List ℕ

-- the strings of options, in order
abbrev pub pair_strings : List Pair → List (List ℕ)
pair_strings pairs = flat_map (λ pair. pair.0 ∷ pair.1 ∷ []) pairs

-- every name has a byte
abbrev pub AreNamed : List Pair → Type 0
AreNamed pairs = AllByRecursion (λ pair. pair.0 ≢ []) pairs

-- two names are equal when letter case is ignored
abbrev pub SameName : Pair → Pair → Type 0
SameName pair other = lower pair.0 ≡ lower other.0

-- no name is equal to a later one
abbrev pub AreApart : List Pair → Type 0
AreApart [] = Unit {0}
AreApart (pair ∷ pairs) = AllByRecursion (λ later. SameName pair later → ⊥) pairs × AreApart pairs

-- options that can be written: no byte is zero, and names are not empty and differ when letter case is ignored
abbrev pub AreOptions : List Pair → Type 0
AreOptions pairs = AreStrings (pair_strings pairs) × AreNamed pairs × AreApart pairs

-- the value of the first option of this lower-case name, as it is written
abbrev pub text_of : List Pair → List ℕ → Option (List ℕ)
text_of [] key = None
text_of (pair ∷ pairs) key = cond (bytes_eq (lower pair.0) key) (Some pair.1) (text_of pairs key)

-- from each name in lower case to what its value stands for
abbrev pub map_of : List Pair → OptionMap
map_of pairs = map.from_entries (each (λ pair. (lower pair.0, value_of (lower pair.0) pair.1)) pairs)

-- the strings that bytes are cut into at their zeros; what follows the last zero is none
abbrev pub with_first : ℕ → List (List ℕ) → List (List ℕ)
with_first b [] = []
with_first b (s ∷ ss) = (b ∷ s) ∷ ss

abbrev pub strings_of : List ℕ → List (List ℕ)
strings_of [] = []
strings_of (b ∷ bs) = cond (nat_eq b 0) ([] ∷ strings_of bs) (with_first b (strings_of bs))

-- strings, two by two
abbrev pub pair_up : List (List ℕ) → List Pair
pair_up [] = []
pair_up (name ∷ []) = []
pair_up (name ∷ text ∷ rest) = (name, text) ∷ pair_up rest

-- the options that bytes hold
abbrev pub pairs_of : List ℕ → List Pair
pairs_of bytes = pair_up (strings_of bytes)

-- a request as it is written: its options in order
pub record WrittenRequest : Type 0 where
  pub side : Side
  pub name : List ℕ
  pub mode : Mode
  pub pairs : List Pair

-- its options as a map, which keeps neither their order nor the letter case of their names
abbrev pub parts : WrittenRequest → RequestParts
parts request = record { side = request.side; name = request.name; mode = request.mode; options = map_of request.pairs }
