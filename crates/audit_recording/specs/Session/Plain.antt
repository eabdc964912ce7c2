-- Bytes as plain text.
use Rattle.std.specs.Prelude.{ℕ, Bool, ◌&&◌, ◌==◌, ◌/◌, ◌%◌, ◌++◌, ◌∷◌, not, List, [], codes, flat_map, if◌then◌else◌}
use Rattle.std.specs.Char.{digit_char, is_ascii_graphic}

-- a sign of ASCII that is seen, but for the quote and the backslash
abbrev pub is_plain : ℕ → Bool
is_plain byte = is_ascii_graphic byte && (not (byte == 34) && not (byte == 92))

-- the byte itself, or `\x` and its two hexadecimal digits
abbrev pub plain_byte : ℕ → List ℕ
plain_byte byte = if is_plain byte then byte ∷ [] else codes "\\x" ++ digit_char (byte / 16) ∷ digit_char (byte % 16) ∷ []

abbrev pub plain : List ℕ → List ℕ
plain bytes = flat_map plain_byte bytes
