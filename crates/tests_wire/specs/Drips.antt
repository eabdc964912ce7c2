-- What the readers and writers for tests hold, give and take.
use Rattle.std.specs.Prelude.{◌≡◌, ℕ, ◌+◌, ◌-◌, ◌^◌, ◌==◌, ◌||◌, Bool, true, false, if◌then◌else◌, min, List, [], ◌∷◌, ◌++◌, length, All, Option, None, Some, is_some, Result, Ok, IsErr, MatchOption}

-- what a reader for tests has left, how it gives it, and how often it was read
pub record DripReaderState : Type 0 where
  pub bytes : List ℕ
  pub piece : ℕ
  pub fails_at : ℕ
  pub afterwards : Option ℕ
  pub reads : ℕ

-- the bytes that a reader tells: those that are left, if it gives them all and then ends
abbrev pub drip_remaining : DripReaderState → Option (List ℕ)
drip_remaining d = if d.piece == 0 || is_some d.afterwards then None else Some d.bytes

-- the reader after one more read
abbrev pub after_read : DripReaderState → List ℕ → DripReaderState
after_read d left = record { bytes = left; piece = d.piece; fails_at = d.fails_at; afterwards = d.afterwards; reads = min (d.reads + 1) (2 ^ 64 - 1) }

-- What a read gives that may give so many bytes at most: the first of those that are left; where none is left, the
-- byte that comes for ever, or nothing.
abbrev pub GivesPiece : Option ℕ → ℕ → List ℕ → List ℕ → ℕ → List ℕ → Type 0
GivesPiece afterwards most [] left n given = (left ≡ []) × MatchOption afterwards (n ≡ 0) (λ byte. (n ≡ most) × All (λ b. b ≡ byte) given)
GivesPiece afterwards most (b ∷ bs) left n given = (n ≡ min (length (b ∷ bs)) most) × (b ∷ bs ≡ given ++ left)

-- what a writer for tests took, what it takes, and how often it was written to
pub record DripWriterState : Type 0 where
  pub taken : List ℕ
  pub room : ℕ
  pub piece : ℕ
  pub fails_at : ℕ
  pub none : Bool
  pub writes : ℕ

-- the writer after one more write
abbrev pub after_write : DripWriterState → List ℕ → DripWriterState
after_write d taken = record { taken = taken; room = d.room; piece = d.piece; fails_at = d.fails_at; none = d.none; writes = min (d.writes + 1) (2 ^ 64 - 1) }

-- how many bytes of a slice of that length it takes at once
abbrev pub takes_at_once : DripWriterState → ℕ → ℕ
takes_at_once d size = min (min size d.piece) (d.room - length d.taken)

-- a write is refused: by an error, or by taking no byte
abbrev pub Refuses : {E : Type 0} → Bool → Result ℕ E → Type 0
Refuses true result = result ≡ Ok 0
Refuses false result = IsErr result
