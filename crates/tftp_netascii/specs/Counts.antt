-- What is counted of a text: each byte is told by itself and by the one before it.
use Rattle.std.specs.Prelude.{◌==◌, ◌&&◌, ◌||◌, ◌+◌, not, Bool, ℕ, List, [], ◌∷◌, if◌then◌else◌}
use Rattle.tftp_netascii.specs.Netascii.{nul, lf, cr}

-- the second byte of CR LF or of CR NUL, which is no byte of the file
abbrev pub is_second : ℕ → ℕ → Bool
is_second before x = before == cr && (x == lf || x == nul)

-- a byte with which an LF or a CR of the file begins: each CR, and each LF that has none before it
abbrev pub begins_control : ℕ → ℕ → Bool
begins_control before x = x == cr || (x == lf && not (before == cr))

-- how many bytes of a text are so, which comes after this byte
abbrev pub count_after : (ℕ → ℕ → Bool) → ℕ → List ℕ → ℕ
count_after test before [] = 0
count_after test before (x ∷ wire) = (if test before x then 1 else 0) + count_after test x wire
