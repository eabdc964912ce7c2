-- What is told of several files, one after another. Their names, and what came of each, stand in the order in which they were named.
use Rattle.std.specs.Prelude.{◌≡◌, ◌⊎◌, ◌==◌, ◌&&◌, ◌||◌, ◌++◌, ℕ, max, Bool, true, false, List, [], ◌∷◌, Option, Result, Ok, Err, is_none, if◌then◌else◌}
use Rattle.std.specs.Io.KnownBytes.{Appends}
use Rattle.audit_recording.specs.Session.Noted.{Noticed, frames_in, giving_up, lost_frames}
use Rattle.audit_recording.specs.Session.Told.{is_nil}
use Rattle.audit_recording.specs.declared.judges.judging.Judging.{Judging}
use Rattle.audit_recording.specs.declared.session.notes.Notes.{Notes}
use Rattle.tftp_rows.specs.Faults.{IsRemarkFault, IsTellFault, Why}
use Rattle.tftp_rows.specs.Faults.Why.{Unopened, Stopped}
use Rattle.tftp_rows.specs.Remarks.{remark_text, remarks_text, rest_lines}
use Rattle.tftp_rows.specs.Telling.{AreRowsWith}
use Rattle.tftp_rows.specs.Whole.{IsRecordingTold, IsRecordingToldInPart, Telling, all_rows, counted, worst_of}
use Rattle.tftp_rows.specs.declared.printing.RowPrinter.{RowPrinter}
use Rattle.tftp_rows.specs.declared.reading.TellFault.{TellFault}
use Rattle.tftp_rows.specs.declared.remarks.Remarks.{Remarks}
use Rattle.tftp_rows.specs.declared.row.VerdictRow.{VerdictRow}
use Rattle.tftp_rows.specs.declared.teller.Teller.{Teller}

-- ---- what came of a file, and the status

-- All of these transfers of it were told, it was read whole or not, and these lines are what there is to tell of it as a whole; or it has a
-- fault, this one, and that is what there was to tell of it then.
pub data Outcome : Type 0 where
  Told : List Telling → Bool → List (List ℕ) → Outcome
  Faulty : Why → List (List ℕ) → Outcome

-- 2 where it has a fault or was not read whole, else the greatest status of a verdict on its transfers
abbrev pub status_of_outcome : Outcome → ℕ
status_of_outcome (Told tellings whole rest) = max (worst_of tellings) (if whole then 0 else 2)
status_of_outcome (Faulty why rest) = 2

-- it was told and has no transfer
abbrev pub has_none : Outcome → Bool
has_none (Told [] whole rest) = true
has_none _ = false

-- one of them has a fault
abbrev pub has_fault : List Outcome → Bool
has_fault [] = false
has_fault (Told tellings whole rest ∷ outcomes) = has_fault outcomes
has_fault (Faulty why rest ∷ outcomes) = true

abbrev pub worst_among : List Outcome → ℕ
worst_among [] = 0
worst_among (outcome ∷ outcomes) = max (status_of_outcome outcome) (worst_among outcomes)

abbrev pub any_has_none : List Outcome → Bool
any_has_none [] = false
any_has_none (outcome ∷ outcomes) = has_none outcome || any_has_none outcomes

-- the status of all: the greatest of them, and 3 where that is 0 and a file has no transfer
abbrev pub status_among : List Outcome → ℕ
status_among outcomes = if (worst_among outcomes == 0) && any_has_none outcomes then 3 else worst_among outcomes

-- ---- what is told on standard error

-- Of a file: a line for each thing that there is to tell of it as a whole. Where it has a fault, some of that, from its start, and then a line
-- that tells the fault in its words.
abbrev pub IsSaidOf : (Why → List ℕ → Type 0) → List ℕ → List ℕ → Outcome → List ℕ → Type 0
IsSaidOf AreWords program name (Told tellings whole rest) text = text ≡ remarks_text program name rest
IsSaidOf AreWords program name (Faulty why rest) text =
    (said unsaid words : List ℕ) × AreWords why words × (remarks_text program name rest ≡ said ++ unsaid) × (text ≡ said ++ remark_text program name words)

-- of all these files, that of the first one first
abbrev pub IsSaidOfAll : (Why → List ℕ → Type 0) → List ℕ → List (List ℕ) → List Outcome → List ℕ → Type 0
IsSaidOfAll AreWords program (name ∷ names) (outcome ∷ outcomes) text =
    (one others : List ℕ) × (text ≡ one ++ others) × IsSaidOf AreWords program name outcome one × IsSaidOfAll AreWords program names outcomes others
IsSaidOfAll AreWords program _ _ text = text ≡ []

-- the text is that, and came behind what stood there
abbrev pub SaysOf : Option (List ℕ) → Option (List ℕ) → (List ℕ → Type 0) → Type 0
SaysOf before after IsSaid = (text : List ℕ) × IsSaid text × Appends before after text

-- ---- what was printed

-- it was read to its end, and no frame is lost that may have been of a datagram
abbrev pub is_read_whole : Notes → Noticed → Bool
is_read_whole notes s = is_none notes.fault && is_nil (lost_frames s.events)

module _ {W : Type 0} (contents : W → Option (List ℕ)) where
  -- the file of this name was begun, behind what was printed before
  pub record IsBegun (name : List ℕ) (before : RowPrinter W) (begun : Teller W) : Type 0 where
    pub file : begun.file.now ≡ name
    pub printer : begun.printer ≡ before
    pub dropped : begun.dropped ≡ 0

  -- It is a recording of which all transfers were told: these; and this is what there is to tell of it as a whole.
  pub record IsFileTold (name : List ℕ) (file : Option (List ℕ)) (judging : Judging) (named : List ℕ) (before after : RowPrinter W) (tellings : List Telling) (whole : Bool) (rest : List (List ℕ)) : Type 0 where
    pub begun : Teller W
    pub now : Teller W
    pub notes : Notes
    pub begins : IsBegun name before begun
    pub told : IsRecordingTold contents begun now file judging named notes
    pub are : told.tellings ≡ tellings
    pub is_whole : is_read_whole notes (giving_up (frames_in told.recording.waiting) told.noticed) ≡ whole
    pub rest_is : rest_lines notes (giving_up (frames_in told.recording.waiting) told.noticed) (counted tellings) ≡ rest
    pub ends : now.printer ≡ after

  -- It was told up to this fault.
  pub record IsFileToldInPart (name : List ℕ) (file : Option (List ℕ)) (judging : Judging) (named : List ℕ) (before after : RowPrinter W) (fault : TellFault) : Type 0 where
    pub begun : Teller W
    pub now : Teller W
    pub begins : IsBegun name before begun
    pub told : IsRecordingToldInPart contents begun now file judging named
    pub ends : now.printer ≡ after
    pub why : IsTellFault file now.printer.writer.1 now.told fault

  -- This came of the file of that name, where it is known to open or not, and a write on standard error has failed or not. Of one with a fault
  -- nothing was printed, if it does not open; or what was told up to the fault; or all of its transfers, if it is what there is to tell of it
  -- as a whole that can't be told. There is none of that before.
  abbrev pub CameOf : Bool → Bool → List ℕ → Option (List ℕ) → Judging → List ℕ → RowPrinter W → RowPrinter W → Outcome → Type 0
  CameOf unheard opens name file judging named before after (Told tellings whole rest) = IsFileTold name file judging named before after tellings whole rest
  CameOf unheard opens name file judging named before after (Faulty Unopened rest) = (opens ≡ false) × (after ≡ before) × (rest ≡ [])
  CameOf unheard opens name file judging named before after (Faulty (Stopped fault) rest) =
      (IsFileToldInPart name file judging named before after fault × (rest ≡ []))
      ⊎ ((tellings : List Telling) × (whole : Bool) × IsFileTold name file judging named before after tellings whole rest × IsRemarkFault unheard fault)

  -- This came of the files of these names, of which `holds` says what they hold, and `opens` which of them are known to open: each was printed
  -- behind those before it, and nothing else.
  abbrev pub CameOfAll : Bool → (List ℕ → Bool) → (List ℕ → Option (List ℕ)) → Judging → List ℕ → List (List ℕ) → RowPrinter W → RowPrinter W → List Outcome → Type 0
  CameOfAll unheard opens holds judging named [] before after [] = after ≡ before
  CameOfAll unheard opens holds judging named (name ∷ names) before after (outcome ∷ outcomes) =
      (between : RowPrinter W) × CameOf unheard (opens name) name (holds name) judging named before between outcome
      × CameOfAll unheard opens holds judging named names between after outcomes
  CameOfAll unheard opens holds judging named _ before after _ = ⊥

  -- All of these files were told, in this order, and on standard error what there is to tell of each, or its fault; and this is their status.
  pub record AreFilesTold (AreWords : Why → List ℕ → Type 0) (unheard : Bool) (opens : List ℕ → Bool) (holds : List ℕ → Option (List ℕ)) (judging : Judging) (named program : List ℕ) (names : List (List ℕ)) (before after : RowPrinter W) (old new : Option (List ℕ)) (status : ℕ) : Type 0 where
    pub outcomes : List Outcome
    pub came : CameOfAll unheard opens holds judging named names before after outcomes
    pub said : SaysOf old new (IsSaidOfAll AreWords program names outcomes)
    pub is : status ≡ status_among outcomes

  -- The first of these files were told, in this order, and no other: a fault of the last of them can't be told, since a write on standard
  -- error has failed.
  pub record AreFilesToldInPart (unheard : Bool) (opens : List ℕ → Bool) (holds : List ℕ → Option (List ℕ)) (judging : Judging) (named : List ℕ) (names : List (List ℕ)) (before after : RowPrinter W) : Type 0 where
    pub fails : unheard ≡ true
    pub first : List (List ℕ)
    pub last : List ℕ
    pub others : List (List ℕ)
    pub all : names ≡ first ++ last ∷ others
    pub between : RowPrinter W
    pub outcomes : List Outcome
    pub came : CameOfAll unheard opens holds judging named first before between outcomes
    pub why : Why
    pub rest : List (List ℕ)
    pub came_last : CameOf unheard (opens last) last (holds last) judging named between after (Faulty why rest)

-- what is told of these files, however the call ends
abbrev pub TellsFiles : {W E A : Type 0} → (W → Option (List ℕ)) → (E → Option (List ℕ)) → (Why → List ℕ → Type 0) → (List ℕ → Bool) → (List ℕ → Option (List ℕ)) → Judging → List ℕ → List (List ℕ) → RowPrinter W → RowPrinter W → Remarks E → Remarks E → Result ℕ A → Type 0
TellsFiles contents errors AreWords opens holds judging named names before after old new (Ok status) =
    AreFilesTold contents AreWords new.errors.1 opens holds judging named old.program.now names before after (errors old.errors.0) (errors new.errors.0) status
TellsFiles contents errors AreWords opens holds judging named names before after old new (Err e) =
    AreFilesToldInPart contents new.errors.1 opens holds judging named names before after

-- ---- the rows of all

-- They are the rows of these transfers of a file, the first as they are where nothing is known to be lost, and the last as they are where the
-- recorder lost some number of packets.
pub record AreRowsOfFile (tellings : List Telling) (printed : List VerdictRow) : Type 0 where
  pub early : List VerdictRow
  pub late : List VerdictRow
  pub rows : all_rows tellings ≡ early ++ late
  pub lost : ℕ
  pub first : List VerdictRow
  pub last : List VerdictRow
  pub are_first : AreRowsWith 0 early first
  pub are_last : AreRowsWith lost late last
  pub all : printed ≡ first ++ last

-- they are the rows of all these files, those of the first file first
abbrev pub AreRowsOfFiles : List Outcome → List VerdictRow → Type 0
AreRowsOfFiles [] printed = printed ≡ []
AreRowsOfFiles (Told tellings whole rest ∷ outcomes) printed = (rows others : List VerdictRow) × (printed ≡ rows ++ others) × AreRowsOfFile tellings rows × AreRowsOfFiles outcomes others
AreRowsOfFiles (Faulty why rest ∷ outcomes) printed = ⊥
