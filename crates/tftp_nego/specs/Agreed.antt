-- What the tests of an OACK say, one by one.
use Rattle.std.specs.Prelude.{◌≡◌, ◌⊎◌, ℕ, ◌+◌, ◌/◌, ◌≤◌, true, List, Option, Some, None, codes, option_and_then}
use Rattle.std.specs.List.{AllByRecursion}
use Rattle.std.specs.FinMap as map
use Rattle.tftp_packet.specs.{OptionMap, OptionValue, Num, Text, lower, range_of, is_within, number_in, RequestParts, Side, Put, Octet, Pair, AnyOf}
use Rattle.tftp_packet.specs.{Rollover}
use Rattle.tftp_packet.specs.Rounds.{greatest_of}
use Rattle.tftp_nego.specs.Numbers.{option_or}

-- each number is in the range of its option
abbrev pub AreInRange : OptionMap → Type 0
AreInRange options = (name : List ℕ) (number : ℕ) → map.get options name ≡ Some (Num number) → is_within (range_of name) number ≡ true

-- one of the four options that may be agreed
abbrev pub IsInProfile : List ℕ → Type 0
IsInProfile name = (name ≡ codes "blksize") ⊎ ((name ≡ codes "timeout") ⊎ ((name ≡ codes "tsize") ⊎ (name ≡ codes "windowsize")))

-- each name, in lower case, has the property
abbrev pub EachName : (List ℕ → Type 0) → List Pair → Type 0
EachName P pairs = AllByRecursion (λ pair. P (lower pair.0)) pairs

-- some name, in lower case, has the property
abbrev pub SomeName : (List ℕ → Type 0) → List Pair → Type 0
SomeName P pairs = AnyOf (λ pair. P (lower pair.0)) pairs

-- a number that is given where one was asked for, and the relation of the two; an option that is not given is right
abbrev pub IsAnswered : (ℕ → ℕ → Type 0) → OptionMap → OptionMap → List ℕ → Type 0
IsAnswered May asked given name = (value : OptionValue) → map.get given name ≡ Some value
    → (number answer : ℕ) × (map.get asked name ≡ Some (Num number)) × (value ≡ Num answer) × May number answer

-- the two values are not numbers in the relation
abbrev pub AreNot : (ℕ → ℕ → Type 0) → OptionValue → OptionValue → Type 0
AreNot May (Num number) (Num answer) = May number answer → ⊥
AreNot May (Num number) (Text text) = Unit {0}
AreNot May (Text text) value = Unit {0}

-- the option is given, and it was not asked for, or the two values are not numbers in the relation
abbrev pub IsUnanswered : (ℕ → ℕ → Type 0) → OptionMap → OptionMap → List ℕ → Type 0
IsUnanswered May asked given name = (value : OptionValue) × (map.get given name ≡ Some value)
    × ((map.get asked name ≡ None) ⊎ ((was : OptionValue) × (map.get asked name ≡ Some was) × AreNot May was value))

-- two numbers, where both are there
abbrev pub both : Option ℕ → Option ℕ → Option (ℕ × ℕ)
both (Some number) (Some answer) = Some (number, answer)
both (Some number) None = None
both None given = None

-- the numbers of an option in two maps
abbrev pub numbers_of : OptionMap → OptionMap → List ℕ → Option (ℕ × ℕ)
numbers_of asked given name = both (option_and_then number_in (map.get asked name)) (option_and_then number_in (map.get given name))

-- how a number may be answered: by no greater one, by itself, and the size of a file that is read by any
abbrev pub IsLowered : ℕ → ℕ → Type 0
IsLowered number answer = answer ≤ number

abbrev pub IsKept : ℕ → ℕ → Type 0
IsKept number answer = answer ≡ number

abbrev pub IsSize : Side → ℕ → ℕ → Type 0
IsSize side number answer = side ≡ Put → answer ≡ number

-- each of the four options is answered, where it is given
abbrev pub AllAnswered : RequestParts → OptionMap → Type 0
AllAnswered request given =
    IsAnswered IsLowered request.options given (codes "blksize") × IsAnswered IsKept request.options given (codes "timeout")
    × IsAnswered IsLowered request.options given (codes "windowsize") × IsAnswered (IsSize request.side) request.options given (codes "tsize")

abbrev pub SomeUnanswered : RequestParts → OptionMap → Type 0
SomeUnanswered request given =
    IsUnanswered IsLowered request.options given (codes "blksize") ⊎ (IsUnanswered IsKept request.options given (codes "timeout")
    ⊎ (IsUnanswered IsLowered request.options given (codes "windowsize") ⊎ IsUnanswered (IsSize request.side) request.options given (codes "tsize")))

-- the blocks of the size that is given are numbered up to the greatest one (RFC 1350, section 5)
abbrev pub Fits : Option Rollover → OptionMap → ℕ → Type 0
Fits rollover given size = size / option_or 512 given (codes "blksize") + 1 ≤ greatest_of rollover

abbrev pub FitsNumbers : Option Rollover → RequestParts → OptionMap → Type 0
FitsNumbers rollover request given =
    request.mode ≡ Octet → (size : ℕ) → map.get given (codes "tsize") ≡ Some (Num size) → Fits rollover given size
