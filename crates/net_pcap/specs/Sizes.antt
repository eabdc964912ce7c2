-- What is answered of the size of a piece.
use Rattle.std.specs.Prelude.{◌≡◌, ◌%◌, ◌<◌, ◌≤◌, ℕ, List, length, Result, Ok, Err}
use Rattle.net_pcap.specs.Pieces.{Announces, BeginsAsOne, IsRegular, IsSize, longest_piece, front_of}
use Rattle.net_pcap.specs.Blocks.{longest_block}
use Rattle.net_pcap.specs.declared.layout.Layout.{Layout}
use Rattle.net_pcap.specs.declared.layout.Layout.TheVariants.{Unopened}
use Rattle.net_pcap.specs.declared.fault.FaultKind.{FaultKind}
use Rattle.net_pcap.specs.declared.fault.FaultKind.TheVariants.{NotARecording, Bad, TooLong}

-- bytes that in front begin as a recording does begin no piece: they announce no size, or one that no piece has
abbrev pub IsIrregular : Layout → List ℕ → Type 0
IsIrregular layout bytes = (front_of layout ≤ length bytes) × ((size : ℕ) → Announces layout bytes size → (size ≤ longest_piece layout) × (IsRegular layout size → ⊥)) × (layout ≡ Unopened → BeginsAsOne bytes)

-- a piece that begins so is longer than any that is read
abbrev pub IsTooLong : Layout → List ℕ → Type 0
IsTooLong layout bytes = (size : ℕ) × Announces layout bytes size × (longest_piece layout < size)

abbrev pub SizeTells : Layout → List ℕ → Result ℕ FaultKind → Type 0
SizeTells layout front (Ok size) = Announces layout front size × IsSize layout size
SizeTells layout front (Err NotARecording) = (layout ≡ Unopened) × (BeginsAsOne front → ⊥)
SizeTells layout front (Err Bad) = IsIrregular layout front
SizeTells layout front (Err TooLong) = IsTooLong layout front
SizeTells layout front (Err _) = ⊥

-- the same of a block whose length is this
abbrev pub BlockSizeTells : ℕ → Result ℕ FaultKind → Type 0
BlockSizeTells said (Ok size) = (size ≡ said) × (said ≤ longest_block) × (12 ≤ said) × (said % 4 ≡ 0)
BlockSizeTells said (Err Bad) = (said ≤ longest_block) × ((12 ≤ said) × (said % 4 ≡ 0) → ⊥)
BlockSizeTells said (Err TooLong) = longest_block < said
BlockSizeTells said (Err _) = ⊥
