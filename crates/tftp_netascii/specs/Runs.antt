-- The runs of bytes between those that netascii gives a meaning of their own.
use Rattle.std.specs.Prelude.{◌≡◌, ◌≢◌, ◌⊎◌, ℕ, List, [], ◌∷◌}
use Rattle.tftp_netascii.specs.Netascii.{nul, lf, cr}

-- a byte that a file and its canonical text have alike
abbrev pub IsPlain : ℕ → Type 0
IsPlain x = (x ≢ lf) × (x ≢ cr)

-- what a CR stands for by the bytes after it, and those of them that are still to be read
abbrev pub ReadsAfterReturn : List ℕ → ℕ → List ℕ → Type 0
ReadsAfterReturn [] byte rest = (byte ≡ cr) × (rest ≡ [])
ReadsAfterReturn (y ∷ ys) byte rest =
    ((y ≡ lf) × (byte ≡ lf) × (rest ≡ ys))
    ⊎ ((y ≡ nul) × (byte ≡ cr) × (rest ≡ ys))
    ⊎ ((y ≢ lf) × (y ≢ nul) × (byte ≡ cr) × (rest ≡ y ∷ ys))
