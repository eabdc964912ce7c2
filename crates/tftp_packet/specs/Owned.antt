-- What owned options and requests say.
use Rattle.std.specs.Prelude.{◌≡◌, ◌⊎◌, ℕ, suc, T, nat_eq, cond, List, [], ◌∷◌, map as each, refl}
use Rattle.std.specs.List.{AllByRecursion}
use Rattle.std.specs.Ordering.{nat_cmp, is_lt}
use Rattle.std.specs.Cmp.Lexicographic.{slice_cmp}
use Rattle.std.specs.Coded.{Coded, code_by, coded⊎, coded×, coded_ℕ, coded_list}
use Rattle.std.specs.FinMap as map
use Rattle.std.specs.FinMap.{is_sorted}
use Rattle.tftp_packet.specs.OptionMaps.{OptionMap, OptionValue, Num, Text, lower}
use Rattle.tftp_packet.specs.declared.value.Value.{Value}
use Rattle.tftp_packet.specs.declared.value.Value.TheVariants as value
use Rattle.tftp_packet.specs.declared.owned_options.Entry.{Entry}
use Rattle.tftp_packet.specs.Messages.{RequestParts}
use Rattle.tftp_packet.specs.Spelling.{side_opcode}
use Rattle.tftp_packet.specs.declared.kinds.Side.{Side}
use Rattle.tftp_packet.specs.declared.kinds.Side.TheVariants.{Get, Put}
use Rattle.tftp_packet.specs.declared.kinds.Mode.{Mode}
use Rattle.tftp_packet.specs.declared.kinds.Mode.TheVariants.{Octet, Netascii}
use mathlib.Core.Logic.{inl, inr}

abbrev pub shown : Value → OptionValue
shown (value.Num number) = Num number
shown (value.Text text) = Text text

-- a name with what its value says
abbrev pub Shown : Type 0
Shown = List ℕ × OptionValue

abbrev pub shown_entry : Entry → Shown
shown_entry entry = (entry.name, shown entry.value)

abbrev pub shown_entries : List Entry → List Shown
shown_entries entries = each shown_entry entries

-- no name has a letter in upper case
abbrev pub AreLower : List Shown → Type 0
AreLower entries = AllByRecursion (λ entry. lower entry.0 ≡ entry.0) entries

-- the names rise, and are in lower case
abbrev pub AreInOrder : List Shown → Type 0
AreInOrder entries = T (is_sorted (slice_cmp nat_cmp) entries) × AreLower entries

-- how many names at the front stand before this one
abbrev pub place : List ℕ → List Shown → ℕ
place name [] = 0
place name (entry ∷ entries) = cond (is_lt (slice_cmp nat_cmp entry.0 name)) (suc (place name entries)) 0

-- a value is stored as its number or its bytes
abbrev pub value_parts : OptionValue → ℕ ⊎ List ℕ
value_parts (Num number) = inl number
value_parts (Text text) = inr text

abbrev pub value_from : ℕ ⊎ List ℕ → OptionValue
value_from (inl number) = Num number
value_from (inr text) = Text text

abbrev pub value_back : (v : OptionValue) → value_from (value_parts v) ≡ v
value_back (Num number) = refl
value_back (Text text) = refl

abbrev pub value_code : Coded OptionValue
value_code = code_by (ℕ ⊎ List ℕ) (coded⊎ coded_ℕ (coded_list coded_ℕ)) value_parts value_from value_back

abbrev pub options_code : Coded OptionMap
options_code = map.code (coded_list coded_ℕ) value_code

-- a request is stored as the tuple of its parts
abbrev pub side_from : ℕ → Side
side_from n = cond (nat_eq n 1) Get Put

abbrev pub side_back : (side : Side) → side_from (side_opcode side) ≡ side
side_back Get = refl
side_back Put = refl

abbrev pub mode_number : Mode → ℕ
mode_number Octet = 0
mode_number Netascii = 1

abbrev pub mode_from : ℕ → Mode
mode_from n = cond (nat_eq n 0) Octet Netascii

abbrev pub mode_back : (mode : Mode) → mode_from (mode_number mode) ≡ mode
mode_back Octet = refl
mode_back Netascii = refl

abbrev pub side_code : Coded Side
side_code = code_by ℕ coded_ℕ side_opcode side_from side_back

abbrev pub mode_code : Coded Mode
mode_code = code_by ℕ coded_ℕ mode_number mode_from mode_back

abbrev pub parts_code : Coded RequestParts
parts_code =
    code_by (Side × (List ℕ × (Mode × OptionMap))) (coded× side_code (coded× (coded_list coded_ℕ) (coded× mode_code options_code)))
    (λ r. (r.side, (r.name, (r.mode, r.options)))) (λ p. record { side = p.0; name = p.1.0; mode = p.1.1.0; options = p.1.1.1 }) (λ _. refl)
