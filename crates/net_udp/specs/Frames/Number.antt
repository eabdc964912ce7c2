-- Numbers in the order of the network: the most significant byte first.
use Rattle.std.specs.Prelude.{◌+◌, ◌*◌, ℕ, List, slice_index}

-- the byte at a place; 0 beyond the last
abbrev pub at : List ℕ → ℕ → ℕ
at bytes place = slice_index bytes place

-- the number of the two bytes at a place
abbrev pub pair : List ℕ → ℕ → ℕ
pair bytes place = 256 * at bytes place + at bytes (place + 1)

-- the number of the four bytes at a place
abbrev pub four : List ℕ → ℕ → ℕ
four bytes place = 16777216 * at bytes place + 65536 * at bytes (place + 1) + 256 * at bytes (place + 2) + at bytes (place + 3)
