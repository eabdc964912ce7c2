-- What is written of a file: the capture text of one of its transfers, or of each. Lists of what a recording has, and of what came of its
-- transfers, have the newest first.
use Rattle.std.specs.Prelude.{◌≡◌, ◌+◌, ◌++◌, ◌∷◌, ℕ, Bool, true, false, List, [], Option, Some, None, Result, Ok, Err, length}
use Rattle.std.specs.Io.KnownBytes.{Appends}
use Rattle.net_streams.specs.Streams.{IsFresh, Sink}
use Rattle.net_udp.specs.Recording.{RecordingState, Step}
use Rattle.tftp_packet.specs.{End}
use Rattle.audit_flows.specs.{Transfer}
use Rattle.audit_recording.specs.Blame.Frames.{Carried, whole_of}
use Rattle.audit_recording.specs.Judges.{opened}
use Rattle.audit_recording.specs.Session.Lines.{lines_told}
use Rattle.audit_recording.specs.Session.Noted.{AreNotesOf, Noticed, frames_in, giving_up}
use Rattle.audit_recording.specs.Session.Opened.{HasEnded, IsReadFaultOf}
use Rattle.audit_recording.specs.Session.Recording.{IsNoticedOf}
use Rattle.audit_recording.specs.Session.Texts.{IsTextFault, IsWhole, opened_count, ordinal, text_of}
use Rattle.audit_recording.specs.declared.session.fault.TextFault.TheVariants.{NotWhole}
use Rattle.audit_recording.specs.declared.session.notes.Notes.{Notes}
use Rattle.tftp_rows.specs.Faults.{IsToldFor, Why}
use Rattle.tftp_rows.specs.Faults.Why.{Unopened, Stopped}
use Rattle.tftp_rows.specs.Remarks.{SaysPart, lacking_line, remarks_text, rest_lines}
use Rattle.tftp_rows.specs.Whole.{IsFileRead}
use Rattle.tftp_rows.specs.declared.reading.TellFault.{TellFault}
use Rattle.tftp_rows.specs.declared.remarks.Remarks.{Remarks}
use Rattle.tftp_rows.specs.declared.texts.TextsOf.{TextsOf}

-- ---- the recording

-- The file is a recording that was read to its end, or to a fault that is noted.
pub record IsRecordingRead (file : Option (List ℕ)) (named : List ℕ) (notes : Notes) : Type 0 where
  pub recording : RecordingState
  pub history : List Step
  pub carried : List Carried
  pub seen : Noticed
  pub read : IsFileRead file recording history
  pub ended : HasEnded recording notes
  pub came : IsNoticedOf named history carried seen
  pub noted : AreNotesOf notes (giving_up (frames_in recording.waiting) seen)

-- what was noticed of it by its end
abbrev pub noticed_by : {file : Option (List ℕ)} {named : List ℕ} {notes : Notes} → IsRecordingRead file named notes → Noticed
noticed_by read = giving_up (frames_in read.recording.waiting) read.seen

-- ---- the texts

-- of each transfer its text, or none, where datagrams of it may be missing
abbrev pub Texts : Type 0
Texts = List (Option (List ℕ))

-- one behind the other, that of the first transfer first
abbrev pub all_texts : Texts → List ℕ
all_texts [] = []
all_texts (Some text ∷ older) = all_texts older ++ text
all_texts (None ∷ older) = all_texts older

-- a line for each that has none
abbrev pub lacking_lines : Texts → List (List ℕ)
lacking_lines [] = []
lacking_lines (Some text ∷ older) = lacking_lines older
lacking_lines (None ∷ older) = lacking_lines older ++ lacking_line (length older + 1) ∷ []

-- 2 where one has none
abbrev pub status_of_texts : Texts → ℕ
status_of_texts [] = 0
status_of_texts (Some text ∷ older) = status_of_texts older
status_of_texts (None ∷ older) = 2

module _ (end : End) (name named : List ℕ) (notes : Notes) (carried : List Carried) (s : Noticed) where
  -- It is the text, at this end, of the transfer with this number in the file of this name; and no datagram of it is missing.
  pub record IsText (number : ℕ) (text : List ℕ) : Type 0 where
    pub key : ℕ
    pub transfer : Transfer
    pub opened : opened key (whole_of named carried) ≡ Some transfer
    pub which : ordinal key (whole_of named carried) ≡ number
    pub whole : IsWhole notes.fault transfer named carried s
    pub is : text ≡ text_of number end name transfer named carried

  -- The transfers from the first on have these; where one has none, datagrams of it may be missing.
  abbrev pub AreTexts : Texts → Type 0
  AreTexts [] = Unit {0}
  AreTexts (Some text ∷ older) = IsText (length older + 1) text × AreTexts older
  AreTexts (None ∷ older) = IsTextFault notes.fault named carried s (length older + 1) end name NotWhole × AreTexts older

-- ---- what a call tells and writes: `remarks` and `writer` as they were before, `told` and `wrote` as they are then

module _ {E : Type 0} (errors : E → Option (List ℕ)) (remarks told : Remarks E) where
  -- These lines of this file, or some of them, as `Said` says, came on standard error.
  abbrev pub IsSaid : TextsOf → (Option (List ℕ) → Option (List ℕ) → List ℕ → Type 0) → List (List ℕ) → Type 0
  IsSaid of Said lines = Said (errors remarks.errors.0) (errors told.errors.0) (remarks_text remarks.program.now of.file.now lines)

  -- nothing came there
  abbrev pub IsSilent : Type 0
  IsSilent = errors told.errors.0 ≡ errors remarks.errors.0

  -- The recording was read, and what there is to tell of it as a whole was told, or some of it.
  pub record IsNoted (of : TextsOf) (file : Option (List ℕ)) (Said : Option (List ℕ) → Option (List ℕ) → List ℕ → Type 0) : Type 0 where
    pub notes : Notes
    pub read : IsRecordingRead file of.services.now notes
    pub said : IsSaid of Said (lines_told (noticed_by read) notes.dropped notes.fault)

-- nothing was written
abbrev pub IsUnwritten : {W : Type 0} → (W → Option (List ℕ)) → Sink W → Sink W → Type 0
IsUnwritten contents writer wrote = contents wrote.inner ≡ contents writer.inner

module _ {W E : Type 0} (contents : W → Option (List ℕ)) (errors : E → Option (List ℕ)) (of : TextsOf) (remarks told : Remarks E) (writer wrote : Sink W) where
  -- ---- one text

  module _ (file : Option (List ℕ)) (number : ℕ) where
    -- The text of the transfer with this number was written, and nothing else.
    pub record IsTextWritten : Type 0 where
      pub noted : IsNoted errors remarks told of file Appends
      pub text : List ℕ
      pub is : IsText of.end of.file.now of.services.now noted.notes noted.read.carried (noticed_by noted.read) number text
      pub written : Appends (contents writer.inner) (contents wrote.inner) text
      pub fresh : IsFresh wrote

    -- What a fault leaves of it. Nothing was written, unless it is that which has failed.
    abbrev pub IsTextStopped : TellFault → Type 0
    IsTextStopped (TellFault.Alloc error) = IsUnwritten contents writer wrote × IsNoted errors remarks told of file SaysPart
    IsTextStopped (TellFault.Read fault) = IsUnwritten contents writer wrote × IsSilent errors remarks told × IsReadFaultOf file fault
    IsTextStopped (TellFault.Remark error) = IsUnwritten contents writer wrote × IsNoted errors remarks told of file SaysPart × (told.errors.1 ≡ true)
    IsTextStopped (TellFault.Text fault) =
        IsUnwritten contents writer wrote
        × (noted : IsNoted errors remarks told of file Appends) × IsTextFault noted.notes.fault of.services.now noted.read.carried (noticed_by noted.read) number of.end of.file.now fault
    IsTextStopped TellFault.Unwritten =
        (wrote.failed ≡ true)
        × (noted : IsNoted errors remarks told of file Appends) × (text : List ℕ) × IsText of.end of.file.now of.services.now noted.notes noted.read.carried (noticed_by noted.read) number text
    IsTextStopped _ = ⊥

    -- what a call does, however it ends
    abbrev pub WritesText : {A : Type 0} → Result A TellFault → Type 0
    WritesText (Ok _) = IsTextWritten
    WritesText (Err fault) = IsTextStopped fault

  -- ---- the texts of all, where these datagrams came and this was noticed

  module _ (notes : Notes) (carried : List Carried) (s : Noticed) where
    -- What a fault leaves of the transfer with this number. Nothing was written of it, unless it is that which has failed.
    abbrev pub IsOneStopped : ℕ → TellFault → Type 0
    IsOneStopped number (TellFault.Alloc error) = IsTextFault notes.fault of.services.now carried s number of.end of.file.now NotWhole × (wrote ≡ writer) × IsSaid errors remarks told of SaysPart (lacking_line number ∷ [])
    IsOneStopped number (TellFault.Remark error) =
        IsTextFault notes.fault of.services.now carried s number of.end of.file.now NotWhole × (wrote ≡ writer) × IsSaid errors remarks told of SaysPart (lacking_line number ∷ []) × (told.errors.1 ≡ true)
    IsOneStopped number (TellFault.Text fault) = IsTextFault notes.fault of.services.now carried s number of.end of.file.now fault × (wrote ≡ writer) × (told ≡ remarks)
    IsOneStopped number TellFault.Unwritten = ((text : List ℕ) × IsText of.end of.file.now of.services.now notes carried s number text) × (wrote.failed ≡ true) × (told ≡ remarks)
    IsOneStopped number _ = ⊥

    -- Of the first transfers these texts were written, one behind the other, and nothing else; and these lines were told, and one for each of
    -- these transfers that has no text, or some of all this, as `Said` says.
    pub record AreFirstWritten (lines : List (List ℕ)) (Said : Option (List ℕ) → Option (List ℕ) → List ℕ → Type 0) (after : Option (List ℕ)) : Type 0 where
      pub texts : Texts
      pub are : AreTexts of.end of.file.now of.services.now notes carried s texts
      pub said : IsSaid errors remarks told of Said (lines ++ lacking_lines texts)
      pub written : Appends (contents writer.inner) after (all_texts texts)

    -- They are all, and this is the status.
    pub record AreAllWritten (lines : List (List ℕ)) (status : ℕ) : Type 0 where
      pub first : AreFirstWritten lines Appends (contents wrote.inner)
      pub all : length first.texts ≡ opened_count (whole_of of.services.now carried)
      pub is : status ≡ status_of_texts first.texts
      pub fresh : IsFresh wrote

    -- What a fault leaves of it. Of a text that can't be written nothing is known, but that those before it were.
    abbrev pub AreSomeWritten : List (List ℕ) → TellFault → Type 0
    AreSomeWritten lines (TellFault.Alloc error) = AreFirstWritten lines SaysPart (contents wrote.inner)
    AreSomeWritten lines (TellFault.Remark error) = AreFirstWritten lines SaysPart (contents wrote.inner) × (told.errors.1 ≡ true)
    AreSomeWritten lines (TellFault.Text fault) =
        (first : AreFirstWritten lines Appends (contents wrote.inner)) × IsTextFault notes.fault of.services.now carried s (length first.texts + 1) of.end of.file.now fault
    AreSomeWritten lines TellFault.Unwritten =
        (wrote.failed ≡ true) × (after : Option (List ℕ)) × (first : AreFirstWritten lines Appends after) × (text : List ℕ) × IsText of.end of.file.now of.services.now notes carried s (length first.texts + 1) text
    AreSomeWritten lines _ = ⊥

    -- what a call does, however it ends
    abbrev pub WritesEach : List (List ℕ) → Result ℕ TellFault → Type 0
    WritesEach lines (Ok status) = AreAllWritten lines status
    WritesEach lines (Err fault) = AreSomeWritten lines fault

  -- ---- the texts of a recording

  module _ (file : Option (List ℕ)) where
    -- what there is to tell of it as a whole
    abbrev pub lines_of : {notes : Notes} → IsRecordingRead file of.services.now notes → List (List ℕ)
    lines_of {notes} read = rest_lines notes (noticed_by read) (opened_count (whole_of of.services.now read.carried))

    -- It was read, and the texts of all its transfers were written.
    abbrev pub AreTextsWritten : ℕ → Type 0
    AreTextsWritten status = (notes : Notes) × (read : IsRecordingRead file of.services.now notes) × AreAllWritten notes read.carried (noticed_by read) (lines_of read) status

    -- It was read; and this is what the fault leaves.
    abbrev pub AreStoppedAfter : TellFault → Type 0
    AreStoppedAfter fault = (notes : Notes) × (read : IsRecordingRead file of.services.now notes) × AreSomeWritten notes read.carried (noticed_by read) (lines_of read) fault

    abbrev pub AreTextsStopped : TellFault → Type 0
    AreTextsStopped (TellFault.Read fault) = IsUnwritten contents writer wrote × IsSilent errors remarks told × IsReadFaultOf file fault
    AreTextsStopped fault = AreStoppedAfter fault

    -- what a call does, however it ends
    abbrev pub WritesTexts : Result ℕ TellFault → Type 0
    WritesTexts (Ok status) = AreTextsWritten status
    WritesTexts (Err fault) = AreTextsStopped fault

  -- ---- of a file that is opened first, where that is known to succeed or not; `gives` says what a fault becomes

  -- what a fault leaves, as `Stops` says it of a recording that was opened
  abbrev pub FileStops : {F : Type 0} → (TellFault → F → Type 0) → Bool → (TellFault → Type 0) → F → Type 0
  FileStops {F} gives opens Stops fault = (why : Why) × IsToldFor gives why fault × by why where
    by : Why → Type 0
    by Unopened = (opens ≡ false) × IsUnwritten contents writer wrote × IsSilent errors remarks told
    by (Stopped stop) = Stops stop

  abbrev pub WritesFileText : {A F : Type 0} → (TellFault → F → Type 0) → Bool → Option (List ℕ) → ℕ → Result A F → Type 0
  WritesFileText gives opens file number (Ok _) = IsTextWritten file number
  WritesFileText gives opens file number (Err fault) = FileStops gives opens (IsTextStopped file number) fault

  abbrev pub WritesFileTexts : {F : Type 0} → (TellFault → F → Type 0) → Bool → Option (List ℕ) → Result ℕ F → Type 0
  WritesFileTexts gives opens file (Ok status) = AreTextsWritten file status
  WritesFileTexts gives opens file (Err fault) = FileStops gives opens (AreTextsStopped file) fault
