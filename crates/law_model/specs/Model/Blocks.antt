-- The blocks of what goes over the wire (RFC 1350, section 2 and section 6).
use Rattle.std.specs.Prelude.{ℕ, ◌+◌, ◌-◌, ◌*◌, ◌/◌, List, length, take, drop}

-- block k of the wire, from 1, for blocks of b bytes
abbrev pub block : ℕ → List ℕ → ℕ → List ℕ
block b wire k = take b (drop ((k - 1) * b) wire)

-- how many blocks there are: the last one is shorter than b, and empty where the length is a multiple of b
abbrev pub block_count : ℕ → List ℕ → ℕ
block_count b wire = length wire / b + 1
