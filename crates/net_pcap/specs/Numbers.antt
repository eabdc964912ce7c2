-- The numbers of a recording, in either order of their bytes.
use Rattle.std.specs.Prelude.{◌≡◌, ◌+◌, ◌*◌, ℕ, List, [], ◌∷◌, slice_index}
use Rattle.net_pcap.specs.declared.numbers.Order.{Order}
use Rattle.net_pcap.specs.declared.numbers.Order.TheVariants.{Big, Little}

-- the number of four bytes
abbrev pub four : Order → ℕ → ℕ → ℕ → ℕ → ℕ
four Big a b c d = 16777216 * a + 65536 * b + 256 * c + d
four Little a b c d = 16777216 * d + 65536 * c + 256 * b + a

-- the number of two bytes
abbrev pub two : Order → ℕ → ℕ → ℕ
two Big a b = 256 * a + b
two Little a b = 256 * b + a

-- the bytes are these numbers, of four bytes each, one after another
abbrev pub Spells : Order → List ℕ → List ℕ → Type 0
Spells order bytes [] = bytes ≡ []
Spells order bytes (n ∷ ns) = (a b c d : ℕ) × (rest : List ℕ) × (bytes ≡ a ∷ b ∷ c ∷ d ∷ rest) × (n ≡ four order a b c d) × Spells order rest ns

-- the number of the four bytes from a place on
abbrev pub number_at : Order → List ℕ → ℕ → ℕ
number_at order bytes at = four order (slice_index bytes at) (slice_index bytes (at + 1)) (slice_index bytes (at + 2)) (slice_index bytes (at + 3))

-- the number of the two bytes from a place on
abbrev pub short_at : Order → List ℕ → ℕ → ℕ
short_at order bytes at = two order (slice_index bytes at) (slice_index bytes (at + 1))
