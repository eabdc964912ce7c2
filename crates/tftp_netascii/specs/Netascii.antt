-- Netascii: what a text on the wire reads as, and how a file is written.
-- RFC 1350, section 1: netascii is ASCII with the changes of the Telnet specification. That is RFC 764,
-- whose printer ends a line by CR LF and makes a carriage return alone of CR NUL.
use Rattle.std.specs.Prelude.{◌≡◌, ◌==◌, ◌&&◌, ◌⊎◌, ℕ, List, [], ◌∷◌, if◌then◌else◌}
use Rattle.std.specs.List.{flat_map}

abbrev pub nul : ℕ
nul = 0

abbrev pub lf : ℕ
lf = 10

abbrev pub cr : ℕ
cr = 13

-- the text begins with CR LF or with CR NUL
abbrev pub BeginsWithPair : List ℕ → Type 0
BeginsWithPair [] = ⊥
BeginsWithPair (x ∷ []) = ⊥
BeginsWithPair (x ∷ y ∷ wire) = (x ≡ cr) × ((y ≡ lf) ⊎ (y ≡ nul))

-- The text on the wire reads as the file: CR LF is the end of a line, which is LF in a file; CR NUL is a
-- carriage return; and every other byte is itself. So is a lone LF, and a CR before any other byte, which
-- RFC 764 tells a sender to avoid: no text is refused.
pub data Reads : List ℕ → List ℕ → Type 0 where
  end : Reads [] []
  line_end : (wire file : List ℕ) → Reads wire file → Reads (cr ∷ lf ∷ wire) (lf ∷ file)
  bare_return : (wire file : List ℕ) → Reads wire file → Reads (cr ∷ nul ∷ wire) (cr ∷ file)
  itself : (x : ℕ) (wire file : List ℕ) → ¬ BeginsWithPair (x ∷ wire) → Reads wire file → Reads (x ∷ wire) (x ∷ file)

-- the one file that a text reads as
abbrev pub file_of : List ℕ → List ℕ
file_of [] = []
file_of (x ∷ []) = x ∷ []
file_of (x ∷ y ∷ wire) =
    if x == cr && y == lf then lf ∷ file_of wire
    else if x == cr && y == nul then cr ∷ file_of wire
    else x ∷ file_of (y ∷ wire)

-- how one byte of a file is written
abbrev pub canonical_bytes : ℕ → List ℕ
canonical_bytes x = if x == lf then cr ∷ lf ∷ [] else if x == cr then cr ∷ nul ∷ [] else x ∷ []

-- the one text that is written for a file, among all that read as it
abbrev pub canonical_wire : List ℕ → List ℕ
canonical_wire file = flat_map canonical_bytes file
