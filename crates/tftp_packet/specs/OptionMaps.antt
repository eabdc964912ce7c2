-- The options of a request or of an OACK, as a finite map without order (RFC 2347, section "Packet Formats").
use Rattle.std.specs.Prelude.{ℕ, Bool, false, ◌&&◌, nat_le, bytes_eq, codes, cond, Option, Some, None, List, [], ◌∷◌, map as each}
use Rattle.std.specs.Ordering.{nat_cmp}
use Rattle.std.specs.Char.{is_ascii_digit, to_ascii_lowercase}
use Rattle.std.specs.Cmp.Lexicographic.{slice_cmp}
use Rattle.std.specs.List.{list_all}
use Rattle.std.specs.Str.Parse.{digits_value}
use Rattle.std.specs.FinMap as map

-- the number that a known option's text stands for, or the text as it is
pub data OptionValue : Type 0 where
  Num : (number : ℕ) → OptionValue
  Text : (text : List ℕ) → OptionValue

-- from lower-case names to values
abbrev pub OptionMap : Type 0
OptionMap = map.FinMap (slice_cmp nat_cmp) OptionValue

abbrev pub no_options : OptionMap
no_options = map.empty

-- `A` to `Z` turned into `a` to `z`; other bytes stay
abbrev pub lower : List ℕ → List ℕ
lower s = each to_ascii_lowercase s

-- the least and the greatest number of a known option, by its lower-case name (RFC 2348, RFC 2349, RFC 7440)
unfoldable pub range_of : List ℕ → Option (ℕ × ℕ)
range_of name =
    cond (bytes_eq name (codes "blksize")) (Some (8, 65464))
    (cond (bytes_eq name (codes "timeout")) (Some (1, 255))
    (cond (bytes_eq name (codes "tsize")) (Some (0, 18446744073709551615))
    (cond (bytes_eq name (codes "windowsize")) (Some (1, 65535)) None)))

abbrev pub is_within : Option (ℕ × ℕ) → ℕ → Bool
is_within None n = false
is_within (Some range) n = nat_le range.0 n && nat_le n range.1

-- one digit or more, and nothing else
unfoldable pub is_number : List ℕ → Bool
is_number [] = false
is_number (c ∷ cs) = list_all is_ascii_digit (c ∷ cs)

-- a text is a number of an option that is known; leading zeros count for nothing
unfoldable pub is_known_number : List ℕ → List ℕ → Bool
is_known_number name text = is_number text && is_within (range_of name) (digits_value 10 text)

-- what a text stands for under a lower-case name
unfoldable pub value_of : List ℕ → List ℕ → OptionValue
value_of name text = cond (is_known_number name text) (Num (digits_value 10 text)) (Text text)

-- the number of a value, where it is one
abbrev pub number_in : OptionValue → Option ℕ
number_in (Num number) = Some number
number_in (Text text) = None
