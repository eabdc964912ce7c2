-- A recording that is read frame by frame. Lists have the newest first.
use Rattle.std.specs.Prelude.{◌≡◌, ◌+◌, ◌-◌, ◌≤◌, ◌^◌, ◌⊎◌, [], min, ℕ, Bool, false, true, List, Option, Some, Result, Ok, Err, length}
use Rattle.std.specs.Io.KnownBytes.{Consumes, IsAtEnd, prepend_known}
use Rattle.net_pcap.specs.{BeginsAsClassic, FailsToBegin, FaultKind, PcapFault, lost_of}
use Rattle.net_streams.specs.{Standing}
use Rattle.net_udp.specs.Recording.{RecordingState, StandsFor, Step, standing_of}
use Rattle.audit_flows.specs.{AttributionFault}
use Rattle.audit_recording.specs.Blame.Frames.{Carried}
use Rattle.audit_recording.specs.Session.Kept.{IsSessionAfter, IsSessionOf}
use Rattle.audit_recording.specs.Session.Noted.{Noticed, frames_in, giving_up}
use Rattle.audit_recording.specs.Session.Recording.{IsNoticedOf}
use Rattle.audit_recording.specs.declared.session.fault.ReadFault.{ReadFault}
use Rattle.audit_recording.specs.declared.session.notes.Notes.{Notes}
use Rattle.audit_recording.specs.declared.session.opened.Opened.{Opened}
use Rattle.audit_recording.specs.declared.session.session.Session.{Session}

-- so many, as far as 64 bits count
abbrev pub counted_as : ℕ → ℕ
counted_as count = min count (2 ^ 64 - 1)

-- whether it may tell later that its recorder lost packets
abbrev pub may_lose_in : {R : Type 0} → Opened R → Bool
may_lose_in opened = opened.may_lose

-- Of these bytes and frames it has counted these. Where it can't tell later that packets were lost it is a classic recording, which tells of
-- none.
abbrev pub IsKnownOf : {R : Type 0} → Opened R → List ℕ → List Step → Type 0
IsKnownOf opened bytes history = (may_lose_in opened ≡ false → BeginsAsClassic bytes) × (opened.frames ≡ counted_as (length history))

module _ {R : Type 0} (remaining : R → Option (List ℕ)) where
  -- what is left of the file: what was read ahead, and what its reader has left
  abbrev pub left_of : Opened R → Option (List ℕ)
  left_of opened = prepend_known opened.recording.frames.pieces.ahead (remaining opened.reader.0.inner)

  -- The file had these bytes and what is left, and these are their frames.
  abbrev pub HasRead : Option (List ℕ) → Opened R → List Step → Type 0
  HasRead file opened history =
      (bytes : List ℕ) × Consumes file (left_of opened) bytes × StandsFor opened.recording bytes history × IsKnownOf opened bytes history

-- What the next frame does to their count, and what is answered: whether the recording goes on, or why not. Memory was refused behind so many.
abbrev pub IsCounted : ℕ → ℕ → Result Bool AttributionFault → Result Bool ReadFault → Type 0
IsCounted before after (Ok true) result = (after ≡ counted_as (before + 1)) × (result ≡ Ok true)
IsCounted before after (Ok false) result = (after ≡ before) × (result ≡ Ok false)
IsCounted before after (Err AttributionFault.Memory) result = (after ≡ before) × (result ≡ Err (ReadFault.Memory before))
IsCounted before after (Err AttributionFault.TooMany) result = (after ≡ before) × (result ≡ Err ReadFault.TooMany)

-- it was read to its end, or to a fault, which is noted
abbrev pub HasEnded : RecordingState → Notes → Type 0
HasEnded recording notes =
    (standing_of recording ≡ Standing.Over) ⊎ ((fault : PcapFault) × (standing_of recording ≡ Standing.Failed fault) × (notes.fault ≡ Some fault))

-- how many packets its recorder told that it lost
abbrev pub lost_in : RecordingState → ℕ
lost_in recording = lost_of recording.frames.pieces.mode

-- The recording is read no further: it is the session of the same datagrams, and the fragments that still wait have waited in vain. How many
-- packets the recorder lost is known.
pub record IsSessionClosed (session : Session) (recording : RecordingState) (named out : List ℕ) (history : List Step) (carried : List Carried) (s : Noticed) : Type 0 where
  pub noticed : IsNoticedOf named history carried s
  pub kept : IsSessionOf session named out history carried (giving_up (frames_in recording.waiting) s)
  pub may_lose : session.notes.may_lose ≡ false
  pub dropped : session.notes.dropped ≡ lost_in recording

-- ---- one that is not read

-- The file fails to begin as a recording, for this reason: its first bytes tell it, whatever follows them.
abbrev pub BeginsNot : Option (List ℕ) → FaultKind → Type 0
BeginsNot file kind = (left : Option (List ℕ)) × (fault : PcapFault) × FailsToBegin file left fault × (fault.kind ≡ kind)

-- The file begins with these frames: it had bytes, and these are their frames.
abbrev pub BeginsWith : Option (List ℕ) → List Step → Type 0
BeginsWith file history = (recording : RecordingState) × (bytes : List ℕ) × (left : Option (List ℕ)) × Consumes file left bytes × StandsFor recording bytes history

-- so many frames of it were read, or more
abbrev pub HasFrames : Option (List ℕ) → ℕ → Type 0
HasFrames file count = (history : List Step) × BeginsWith file history × (count ≤ length history)

-- as many frames as there must be before there can be too many datagrams
abbrev pub HasMany : Option (List ℕ) → Type 0
HasMany file = HasFrames file (2 ^ 40)

-- That a file is no recording, or none that is read here, is said only where it fails to begin so; that there are too many datagrams, only
-- where so many frames were read; and that memory was refused, before its first frame or behind one that it has.
abbrev pub IsReadFaultOf : Option (List ℕ) → ReadFault → Type 0
IsReadFaultOf file (ReadFault.NoRecording words) = BeginsNot file FaultKind.NotARecording
IsReadFaultOf file (ReadFault.Format kind) = BeginsNot file kind
IsReadFaultOf file (ReadFault.Memory frame) = (frame ≡ 0) ⊎ HasFrames file frame
IsReadFaultOf file ReadFault.TooMany = HasMany file

-- ---- one that is read whole

-- Frames were read, as `Read` says, and it is the session after them. No transfer was handed out.
pub record IsReadOn (Read : List Step → Type 0) (session : Session) (named : List ℕ) : Type 0 where
  pub history : List Step
  pub carried : List Carried
  pub noticed : Noticed
  pub read : Read history
  pub is : IsSessionAfter session named [] history carried noticed

-- The file had these bytes and what is left, nothing where it was read to its end, and these are their frames. It was read to its end, or to a
-- fault that is noted, and the session is closed. No transfer was handed out.
pub record IsReadWhole (file : Option (List ℕ)) (session : Session) (named : List ℕ) : Type 0 where
  pub recording : RecordingState
  pub bytes : List ℕ
  pub left : Option (List ℕ)
  pub history : List Step
  pub carried : List Carried
  pub noticed : Noticed
  pub had : Consumes file left bytes
  pub frames : StandsFor recording bytes history
  pub at_end : standing_of recording ≡ Standing.Over → IsAtEnd left
  pub ended : HasEnded recording session.notes
  pub closed : IsSessionClosed session recording named [] history carried noticed
