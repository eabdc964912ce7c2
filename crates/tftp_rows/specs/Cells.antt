-- Cells of a table.
use Rattle.std.specs.Prelude.{ℕ, ◌-◌, ◌++◌, List, length, codes, replicate}

-- what is wanting to a column's width, and the space between two columns
abbrev pub padding : ℕ → ℕ → List ℕ
padding length width = replicate (width - length) 32 ++ codes "  "

-- a text in a column of this width, or wider than that
abbrev pub cell : ℕ → List ℕ → List ℕ
cell width text = text ++ padding (length text) width
