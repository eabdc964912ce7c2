-- What is answered of the next piece, by the bytes of it that were read.
use Rattle.std.specs.Prelude.{◌≡◌, ◌≢◌, ◌+◌, ◌-◌, ◌<◌, ◌≤◌, ◌⊎◌, ◌^◌, ℕ, Bool, true, List, [], length, take, drop, Option, Some, None, Result, Ok, Err}
use Rattle.net_pcap.specs.Pieces.{Announces, BeginsAsOne, IsSize, Mode, front_of, Said, Says, next_mode, said_of}
use Rattle.net_pcap.specs.Pieces.Said.{Names}
use Rattle.net_pcap.specs.Numbers.{number_at}
use Rattle.net_pcap.specs.Blocks.{section_type}
use Rattle.net_pcap.specs.Sizes.{IsIrregular, IsTooLong}
use Rattle.net_pcap.specs.declared.layout.Interface.{Interface}
use Rattle.net_pcap.specs.declared.layout.NamedInterface.{NamedInterface}
use Rattle.net_pcap.specs.declared.found.Found.{Found}
use Rattle.net_pcap.specs.declared.found.Found.TheVariants as found
use Rattle.net_pcap.specs.declared.layout.Layout.{Layout}
use Rattle.net_pcap.specs.declared.layout.Layout.TheVariants.{Unopened, Classic, Blocks}
use Rattle.net_pcap.specs.declared.fault.FaultKind.{FaultKind}
use Rattle.net_pcap.specs.declared.fault.FaultKind.TheVariants.{NotARecording, Truncated, Bad, TooLong, TooMany, Read, Memory}

-- the bytes are fewer than the piece has that begins so
abbrev pub IsPart : Layout → List ℕ → Type 0
IsPart layout part = (size : ℕ) → Announces layout part size → length part < size

-- the bytes are fewer than those that are read first of a piece, or fewer than the piece has, whose size is one that pieces have
abbrev pub IsShort : Layout → List ℕ → Type 0
IsShort layout part = (length part < front_of layout) ⊎ ((size : ℕ) × Announces layout part size × IsSize layout size × (length part < size))

-- the bytes of a piece at which the recording ends: some of a piece, which in front begin as a recording does
abbrev pub IsCut : Layout → List ℕ → Type 0
IsCut layout part = IsShort layout part × (part ≢ []) × (layout ≡ Unopened → BeginsAsOne part)

-- the bytes are as many as the piece has that begins so, by a size that pieces have
abbrev pub IsWhole : Layout → List ℕ → Type 0
IsWhole layout piece = Announces layout piece (length piece) × IsSize layout (length piece)

-- a block that says nothing that counts, by its type: it is no section, no interface, no packet and no statistics block
abbrev pub IsSkipped : Layout → List ℕ → Type 0
IsSkipped Unopened bytes = ⊥
IsSkipped (Classic classic) bytes = ⊥
IsSkipped (Blocks order) bytes = (take 4 bytes ≢ section_type) × (number_at order bytes 0 ≢ 1) × (number_at order bytes 0 ≢ 2) × (number_at order bytes 0 ≢ 3) × (number_at order bytes 0 ≢ 6) × (number_at order bytes 0 ≢ 5)

-- what reading the first bytes of a piece ends with: how many bytes it has, the end before it, or a fault
abbrev pub FrontEnds : Layout → Result (Option ℕ) FaultKind → List ℕ → Type 0
FrontEnds layout (Ok (Some size)) piece = Announces layout piece size × IsSize layout size × (length piece ≡ front_of layout)
FrontEnds layout (Ok None) piece = (piece ≡ []) × (layout ≢ Unopened)
FrontEnds layout (Err NotARecording) piece = (layout ≡ Unopened) × (BeginsAsOne piece → ⊥)
FrontEnds layout (Err Truncated) piece = IsCut layout piece
FrontEnds layout (Err Bad) piece = IsIrregular layout piece
FrontEnds layout (Err TooLong) piece = IsTooLong layout piece
FrontEnds layout (Err TooMany) piece = ⊥
FrontEnds layout (Err Read) piece = IsPart layout piece
FrontEnds layout (Err Memory) piece = IsPart layout piece

-- Of bytes that a piece begins with, more are held than there is room for: those that are read first, or all that it has, of
-- a piece that is not skipped.
abbrev pub IsLonger : ℕ → Layout → List ℕ → Type 0
IsLonger room layout part = (size : ℕ) × ((size ≡ front_of layout) ⊎ (Announces layout part size × IsSize layout size × (IsSkipped layout part → ⊥))) × (room < size)

-- what reading on over so many bytes ends with
abbrev pub SkipEnds : Result Bool FaultKind → ℕ → List ℕ → Type 0
SkipEnds (Ok true) count bytes = length bytes ≡ count
SkipEnds _ count bytes = length bytes < count

-- what reading on to the end of a block ends with: after its first eight bytes its last four are held
abbrev pub EndReached : Result Bool FaultKind → ℕ → List ℕ → List ℕ → Type 0
EndReached (Ok true) size taken piece = (length taken ≡ size) × (length piece ≡ 12) × (drop 8 piece ≡ drop (size - 4) taken)
EndReached _ size taken piece = length taken < size

-- ---- one piece more

-- bytes that begin with no piece: they are no size that pieces have, or whole, and say nothing
abbrev pub IsBad : Layout → List NamedInterface → List ℕ → Type 0
IsBad layout interfaces part = IsIrregular layout part ⊎ (IsWhole layout part × ((said : Said) → Says layout interfaces part said → ⊥))

-- What a fault says of the bytes that were read of a piece, after so many. Being out of memory: the piece is not whole, or it
-- names an interface.
abbrev pub Stops : FaultKind → Mode → ℕ → List ℕ → Type 0
Stops NotARecording mode count part = (mode.layout ≡ Unopened) × (BeginsAsOne part → ⊥)
Stops Truncated mode count part = IsCut mode.layout part
Stops Bad mode count part = IsBad mode.layout mode.interfaces part
Stops TooLong mode count part = IsTooLong mode.layout part
Stops TooMany mode count part = (count ≡ 2 ^ 40) × (part ≡ [])
Stops Read mode count part = IsPart mode.layout part
Stops Memory mode count part = IsPart mode.layout part ⊎ ((interface : Interface) × Says mode.layout mode.interfaces part (Names interface))

-- Memory is wanted for a piece that begins with these bytes only where it has more than there is room for and is not
-- skipped, or where it names an interface and there is no place for one more.
abbrev pub WantsMemory : ℕ → ℕ → Mode → List ℕ → Type 0
WantsMemory room places mode part =
    IsLonger room mode.layout part ⊎ ((interface : Interface) × Says mode.layout mode.interfaces part (Names interface) × (places ≤ length mode.interfaces))

-- What reading the rest of a piece ends with, by all its bytes that were taken, and by those that are held: of a block that is
-- skipped they are fewer.
abbrev pub RestEnds : Layout → List NamedInterface → Result Found FaultKind → List ℕ → List ℕ → Type 0
RestEnds layout interfaces (Ok f) piece taken = Says layout interfaces taken (said_of f piece) × ((f ≡ found.Skips) ⊎ (taken ≡ piece))
RestEnds layout interfaces (Err Truncated) piece taken = IsCut layout taken
RestEnds layout interfaces (Err Bad) piece taken = IsBad layout interfaces taken
RestEnds layout interfaces (Err Read) piece taken = IsPart layout taken
RestEnds layout interfaces (Err Memory) piece taken = IsPart layout taken × (taken ≡ piece)
RestEnds layout interfaces (Err _) piece taken = ⊥

-- what is known between pieces: what was read ahead, the mode, and how many pieces there were
pub record PiecesState : Type 0 where
  pub ahead : List ℕ
  pub mode : Mode
  pub count : ℕ
  pub room : ℕ

-- What reading one piece more does, by the bytes that were taken and by those that are held: it says something, which changes
-- the mode; or the recording ends; or there is a fault. All that was taken is held where memory is wanted, and of what is no
-- recording.
abbrev pub StepEnds : PiecesState → PiecesState → Result (Option Found) FaultKind → List ℕ → List ℕ → Type 0
StepEnds old new (Ok (Some found)) piece taken =
    Says old.mode.layout old.mode.interfaces taken (said_of found piece) × (new.mode ≡ next_mode old.mode (said_of found piece)) × (new.count ≡ old.count + 1) × (old.count < 2 ^ 40)
StepEnds old new (Ok None) piece taken = (taken ≡ []) × (old.mode.layout ≢ Unopened) × (new.mode ≡ old.mode) × (new.count ≡ old.count) × (old.count < 2 ^ 40)
StepEnds old new (Err kind) piece taken = Stops kind old.mode old.count taken × ((kind ≡ NotARecording) ⊎ (kind ≡ Memory) → taken ≡ piece)
