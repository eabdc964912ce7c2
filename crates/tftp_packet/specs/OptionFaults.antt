-- What bytes say where options should stand.
use Rattle.std.specs.Prelude.{◌≡◌, ◌≢◌, ◌%◌, ℕ, List, [], length}
use Rattle.tftp_packet.specs.Written.{Pair, strings, AreStrings, pair_strings, AreNamed, AreOptions}
use Rattle.tftp_packet.specs.Faults.{EndsWithZero, AnyOf, HasRepeat}
use Rattle.tftp_packet.specs.declared.fault.PacketFault.{PacketFault}
use Rattle.tftp_packet.specs.declared.fault.PacketFault.TheVariants.{NoTerminator, OddOptions, EmptyOptionName, DuplicateOption}

-- the bytes are these options, written
abbrev pub HoldsOptions : List ℕ → List Pair → Type 0
HoldsOptions bytes pairs = (bytes ≡ strings (pair_strings pairs)) × AreOptions pairs

-- the first fault that the bytes have as options
abbrev pub OptionFault : List ℕ → PacketFault → Type 0
OptionFault bytes NoTerminator = (bytes ≢ []) × (EndsWithZero bytes → ⊥)
OptionFault bytes OddOptions = (all : List (List ℕ)) × (bytes ≡ strings all) × AreStrings all × (length all % 2 ≡ 1)
OptionFault bytes EmptyOptionName = (pairs : List Pair) × (bytes ≡ strings (pair_strings pairs)) × AreStrings (pair_strings pairs) × AnyOf (λ pair. pair.0 ≡ []) pairs
OptionFault bytes DuplicateOption = (pairs : List Pair) × (bytes ≡ strings (pair_strings pairs)) × AreStrings (pair_strings pairs) × AreNamed pairs × HasRepeat pairs
OptionFault bytes _ = ⊥
