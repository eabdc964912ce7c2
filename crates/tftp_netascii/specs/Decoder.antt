-- What a decoder keeps of the pieces that it was fed.
use Rattle.std.specs.Prelude.{◌≡◌, Bool, true, false, List, ℕ, [], ◌∷◌, ◌++◌}
use Rattle.tftp_netascii.specs.Netascii.{Reads, cr}

-- the last byte is a CR
abbrev pub EndsInReturn : List ℕ → Type 0
EndsInReturn wire = (before : List ℕ) × (wire ≡ before ++ cr ∷ [])

-- how many bytes a decoder holds back
abbrev pub held_count : Bool → ℕ
held_count false = 0
held_count true = 1

-- Since it was new the decoder was fed these bytes, whatever the pieces, and has written these. It holds
-- a CR back exactly if that was the last byte, since the next byte says what it stands for.
abbrev pub StandsFor : Bool → List ℕ → List ℕ → Type 0
-- nothing is held back: what was written is the file of all that was fed
StandsFor false fed written = ¬ EndsInReturn fed × Reads fed written
-- a CR is held back: what was written is the file of all before it
StandsFor true fed written = (before : List ℕ) × (fed ≡ before ++ cr ∷ []) × Reads before written
