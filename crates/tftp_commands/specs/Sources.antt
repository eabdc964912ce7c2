-- Where a run reads its text.
use Rattle.std.specs.Prelude.{◌≡◌, ℕ, ◌++◌, List, [], Bool, false, Option, Some}

-- The bytes of a source are those that were read, and no more; or they are a text that was given whole, and a beginning of
-- it was read.
pub data Extent : Type 0 where
  AsRead : Extent
  AsGiven : Extent

-- its bytes, what the reader has left where that is known, and whether a read failed
pub record Source : Type 0 where
  pub extent : Extent
  pub read : List ℕ
  pub left : Option (List ℕ)
  pub failed : Bool

-- what was read, and no more
abbrev pub so_far : List ℕ → Option (List ℕ) → Bool → Source
so_far read left failed = record { extent = AsRead; read = read; left = left; failed = failed }

-- a text that was given whole
abbrev pub given : List ℕ → Source
given text = record { extent = AsGiven; read = text; left = Some []; failed = false }

-- of these bytes so many were read
abbrev pub HasRead : Extent → List ℕ → List ℕ → Type 0
HasRead AsRead bytes read = bytes ≡ read
HasRead AsGiven text read = (more : List ℕ) × (text ≡ read ++ more)
