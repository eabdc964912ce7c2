-- Which bytes are the options of a block (draft-ietf-opsawg-pcapng, section 3.5).
use Rattle.std.specs.Prelude.{◌≡◌, ◌≢◌, ◌+◌, ◌%◌, ◌<◌, ◌⊎◌, ◌==◌, ◌&&◌, ℕ, if◌then◌else◌, List, [], ◌∷◌, ◌++◌, length, Option, Some, None}
use Rattle.net_pcap.specs.Numbers.{two}
use Rattle.net_pcap.specs.declared.numbers.Order.{Order}
use Rattle.net_pcap.specs.declared.options.Cut.{Cut}
use Rattle.net_pcap.specs.declared.options.Cut.TheVariants.{End, Wrong, Next}

-- an option: its code and its value
pub record OptionParts : Type 0 where
  pub code : ℕ
  pub value : List ℕ

-- bytes that fill so many up to a multiple of four
abbrev pub IsPadding : ℕ → List ℕ → Type 0
IsPadding size padding = (length padding < 4) × ((size + length padding) % 4 ≡ 0)

-- the bytes begin with an option: its code, which is not 0, its length, its value, padding; and then the rest
pub record BeginsWithOption (order : Order) (bytes : List ℕ) (o : OptionParts) (rest : List ℕ) : Type 0 where
  pub a : ℕ
  pub b : ℕ
  pub c : ℕ
  pub d : ℕ
  pub padding : List ℕ
  pub are : bytes ≡ a ∷ b ∷ c ∷ d ∷ (o.value ++ (padding ++ rest))
  pub code : o.code ≡ two order a b
  pub some : o.code ≢ 0
  pub sized : length o.value ≡ two order c d
  pub padded : IsPadding (length o.value) padding

-- no option follows: the bytes have ended, or code 0 says so
abbrev pub EndsOptions : Order → List ℕ → Type 0
EndsOptions order bytes = (bytes ≡ []) ⊎ ((a b c d : ℕ) × (rest : List ℕ) × (bytes ≡ a ∷ b ∷ c ∷ d ∷ rest) × (two order a b ≡ 0))

-- the bytes are these options, one after another, and the end of options
abbrev pub SpellsOptions : Order → List ℕ → List OptionParts → Type 0
SpellsOptions order bytes [] = EndsOptions order bytes
SpellsOptions order bytes (o ∷ os) = (rest : List ℕ) × BeginsWithOption order bytes o rest × SpellsOptions order rest os

-- the value of the first option of a code whose value has so many bytes
abbrev pub first_value : ℕ → ℕ → List OptionParts → Option (List ℕ)
first_value code size [] = None
first_value code size (o ∷ os) = if o.code == code && length o.value == size then Some o.value else first_value code size os

-- what a cut says of the bytes
abbrev pub CutTells : Order → List ℕ → Cut → Type 0
CutTells order bytes End = EndsOptions order bytes
CutTells order bytes Wrong = (EndsOptions order bytes → ⊥) × ((o : OptionParts) (rest : List ℕ) → BeginsWithOption order bytes o rest → ⊥)
CutTells order bytes (Next code value rest) = BeginsWithOption order bytes (record { code = code; value = value.now }) rest.now
