-- What a loop over hex digits rests on, and the vectors of some digits.
use Rattle.std.specs.Prelude.{◌≤◌, ◌≡◌, ℕ, List, [], ◌∷◌, MatchOption}
use Rattle.hex.specs.Hex.{hex_digit_value}

-- n is the value of the digit, and from 16 on where the byte is no digit
abbrev pub IsNibble : ℕ → ℕ → Type 0
IsNibble byte n = MatchOption (hex_digit_value byte) (16 ≤ n) (λ value. n ≡ value)

-- the same of each byte
abbrev pub AreNibbles : List ℕ → List ℕ → Type 0
AreNibbles [] [] = Unit {0}
AreNibbles (byte ∷ bytes) (n ∷ ns) = IsNibble byte n × AreNibbles bytes ns
AreNibbles _ _ = ⊥
