-- What is read ahead of its use.
use Rattle.std.specs.Prelude.{ℕ, Bool, List}

-- how many bytes are read at once, and ahead of their use, at most
abbrev pub most_ahead : ℕ
most_ahead = 65536

-- how many bytes of a line there may be before them, at most
abbrev pub most_of_line : ℕ
most_of_line = 131116

-- bytes read ahead, and whether the read that gave them gave as many as are read at once
pub record BufferState : Type 0 where
  pub bytes : List ℕ
  pub full : Bool
