-- What a reader of frames holds, and for what bytes and frames it stands.
use Rattle.std.specs.Prelude.{◌≡◌, ◌+◌, ◌≤◌, ◌⊎◌, ℕ, Bool, true, false, List, [], ◌∷◌, ◌++◌, length, Option, Some, None, Result, Ok, Err}
use Rattle.std.specs.Io.KnownBytes.{Consumes, IsAtEnd, prepend_known}
use Rattle.net_pcap.specs.Frames.{FrameParts, frame_at}
use Rattle.net_pcap.specs.Pieces.{Mode, Stands, IsRecordingTo}
use Rattle.net_pcap.specs.Stopping.{PiecesState, Stops, WantsMemory}
use Rattle.net_pcap.specs.declared.place.Place.{Place}
use Rattle.net_pcap.specs.declared.fault.FaultKind.{FaultKind}
use Rattle.net_pcap.specs.declared.fault.FaultKind.TheVariants.{NotARecording, Truncated, Bad, TooLong, TooMany, Read, Memory}
use Rattle.net_pcap.specs.declared.fault.PcapFault.{PcapFault}
use Rattle.net_streams.specs.{Standing, Open, Over, Failed}

-- The bytes are whole pieces, which give these frames, and then some of which this is so, by how it stands after the pieces.
pub record EndsIn (P : Mode → ℕ → List ℕ → Type 0) (bytes : List ℕ) (frames : List FrameParts) : Type 0 where
  pub good : List ℕ
  pub part : List ℕ
  pub mode : Mode
  pub count : ℕ
  pub are : bytes ≡ good ++ part
  pub stands : Stands good mode count frames
  pub rest : P mode count part

-- then some of which the fault tells
abbrev pub FailsAs : List ℕ → List FrameParts → FaultKind → Type 0
FailsAs bytes frames kind = EndsIn (Stops kind) bytes frames

-- the same, and this is known after the whole pieces
abbrev pub FailsAfter : Mode → List ℕ → List FrameParts → FaultKind → Type 0
FailsAfter mode bytes frames kind = (fails : FailsAs bytes frames kind) × (fails.mode ≡ mode)

-- then some of a piece for which memory is wanted, where there is room for so many bytes of a piece and for so many interfaces
abbrev pub RunsOut : ℕ → ℕ → List ℕ → List FrameParts → Type 0
RunsOut room places bytes frames = EndsIn (λ mode count part. WantsMemory room places mode part) bytes frames

-- a fault of the recording, and not of its reader or of memory
abbrev pub IsWrong : FaultKind → Type 0
IsWrong NotARecording = Unit {0}
IsWrong Truncated = Unit {0}
IsWrong Bad = Unit {0}
IsWrong TooLong = Unit {0}
IsWrong TooMany = ⊥
IsWrong Read = ⊥
IsWrong Memory = ⊥

-- what reading on to the next frame tells of the bytes that were taken with it and before it, and of the frames before it
abbrev pub PlaceTells : Result (Option Place) FaultKind → PiecesState → List ℕ → List ℕ → List FrameParts → Type 0
PlaceTells (Ok (Some place)) state piece bytes frames = Stands bytes state.mode state.count (frames ++ frame_at place piece ∷ [])
PlaceTells (Ok None) state piece bytes frames = IsRecordingTo state.mode bytes frames
PlaceTells (Err kind) state piece bytes frames = FailsAfter state.mode bytes frames kind

-- the same, once the frame is in what the caller holds
abbrev pub FillTells : Result Bool FaultKind → PiecesState → FrameParts → List ℕ → List FrameParts → Type 0
FillTells (Ok true) state frame bytes frames = Stands bytes state.mode state.count (frames ++ frame ∷ [])
FillTells (Ok false) state frame bytes frames = IsRecordingTo state.mode bytes frames
FillTells (Err kind) state frame bytes frames = FailsAfter state.mode bytes frames kind

-- ---- the reader

-- what contracts see of a reader: what stands between pieces, how many frames it gave, and whether it goes on
pub record ReaderState : Type 0 where
  pub pieces : PiecesState
  pub count : ℕ
  pub standing : Standing PcapFault

-- the bytes fail so, at the frame after those that they give
pub record FailsIn (bytes : List ℕ) (frames : List FrameParts) (fault : PcapFault) : Type 0 where
  pub fails : FailsAs bytes frames fault.kind
  pub number : fault.frame ≡ length frames + 1

-- what the reader took and gave, by whether it goes on
abbrev pub StandingTells : Standing PcapFault → ReaderState → List ℕ → List FrameParts → Type 0
StandingTells Open reader bytes frames = Stands bytes reader.pieces.mode reader.pieces.count frames × (reader.count ≡ length frames)
StandingTells Over reader bytes frames = IsRecordingTo reader.pieces.mode bytes frames
StandingTells (Failed fault) reader bytes frames = (failed : FailsIn bytes frames fault) × (failed.fails.mode ≡ reader.pieces.mode)

-- The reader stands for a history: it took these bytes, and gave these frames, in order.
abbrev pub StandsFor : ReaderState → List ℕ → List FrameParts → Type 0
StandsFor reader bytes frames = StandingTells reader.standing reader bytes frames

-- the frames with the one that was given
abbrev pub with_answer : List FrameParts → Result Bool PcapFault → FrameParts → List FrameParts
with_answer frames (Ok true) frame = frames ++ frame ∷ []
with_answer frames (Ok false) frame = frames
with_answer frames (Err fault) frame = frames

-- bytes were taken, and with them the reader stands for the history that the answer adds to
pub record Continues (new : ReaderState) (before after : Option (List ℕ)) (result : Result Bool PcapFault) (frame : FrameParts) (bytes : List ℕ) (frames : List FrameParts) : Type 0 where
  pub taken : List ℕ
  pub consumed : Consumes before after taken
  pub stands : StandsFor new (bytes ++ taken) (with_answer frames result frame)

-- Bytes were taken in which a header was looked for, and some more were read ahead. What is no recording is told by the
-- end, where all were taken, or by twelve bytes.
pub record FailsToBegin (before after : Option (List ℕ)) (fault : PcapFault) : Type 0 where
  pub taken : List ℕ
  pub ahead : List ℕ
  pub consumed : Consumes before after (taken ++ ahead)
  pub tells : FailsIn taken [] fault
  pub text : fault.kind ≡ NotARecording → IsAtEnd (prepend_known ahead after) ⊎ (12 ≤ length taken)
