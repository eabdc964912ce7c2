-- What is listed of a file.
use Rattle.std.specs.Prelude.{◌≡◌, ◌⊎◌, ℕ, Bool, false, List, Option, Result, Ok, Err, if◌then◌else◌}
use Rattle.std.specs.Io.KnownBytes.{Appends}
use Rattle.audit_recording.specs.Session.Noted.{frames_in, giving_up}
use Rattle.audit_recording.specs.declared.session.notes.Notes.{Notes}
use Rattle.tftp_rows.specs.Faults.{IsRemarkFault, IsTellFault, IsToldFor, Why}
use Rattle.tftp_rows.specs.Faults.Why.{Unopened, Stopped}
use Rattle.tftp_rows.specs.Files.{is_read_whole}
use Rattle.tftp_rows.specs.ListedWhole.{IsRecordingListed, IsRecordingListedInPart}
use Rattle.tftp_rows.specs.Remarks.{SaysPart, remarks_text, rest_lines}
use Rattle.tftp_rows.specs.declared.lister.Lister.{Lister}
use Rattle.tftp_rows.specs.declared.reading.TellFault.{TellFault}
use Rattle.tftp_rows.specs.declared.remarks.Remarks.{Remarks}

module _ {W : Type 0} (contents : W → Option (List ℕ)) where
  -- It is a recording of which all transfers were listed, and what else there is to tell of it was told on standard error; and this is the
  -- status: 0 where it was read whole, else 2.
  pub record IsFileListed (begun now : Lister W) (file : Option (List ℕ)) (named program name : List ℕ) (old new : Option (List ℕ)) (status : ℕ) : Type 0 where
    pub notes : Notes
    pub listed : IsRecordingListed contents begun now file named notes
    pub said : Appends old new (remarks_text program name (rest_lines notes (giving_up (frames_in listed.recording.waiting) listed.noticed) now.told))
    pub is : status ≡ (if is_read_whole notes (giving_up (frames_in listed.recording.waiting) listed.noticed) then 0 else 2)

  -- What a fault leaves of it, where it is known to open or not, and a write on standard error has failed or not: nothing was printed, if it
  -- does not open; or what was listed up to the fault; or all of its transfers, if it is what else there is to tell of it that can't be told:
  -- then some of that, from its start, and else nothing stands on standard error.
  abbrev pub IsFileListedInPart : Bool → Bool → Lister W → Lister W → Option (List ℕ) → List ℕ → List ℕ → List ℕ → Option (List ℕ) → Option (List ℕ) → Why → Type 0
  IsFileListedInPart unheard opens begun now file named program name old new Unopened = (opens ≡ false) × (now.printer ≡ begun.printer) × (new ≡ old)
  IsFileListedInPart unheard opens begun now file named program name old new (Stopped fault) =
      (IsRecordingListedInPart contents begun now file named × (new ≡ old) × IsTellFault file now.printer.writer.1 now.told fault)
      ⊎ ((notes : Notes) × (listed : IsRecordingListed contents begun now file named notes)
      × SaysPart old new (remarks_text program name (rest_lines notes (giving_up (frames_in listed.recording.waiting) listed.noticed) now.told))
      × IsRemarkFault unheard fault)

-- What is listed of a file, however the call ends. The fault that it answers came of this one; `gives` says what it becomes.
abbrev pub ListsFile : {W E A : Type 0} → (W → Option (List ℕ)) → (E → Option (List ℕ)) → (TellFault → A → Type 0) → Bool → Lister W → Lister W → Option (List ℕ) → List ℕ → List ℕ → Remarks E → Remarks E → Result ℕ A → Type 0
ListsFile contents errors gives opens begun now file named name old new (Ok status) =
    IsFileListed contents begun now file named old.program.now name (errors old.errors.0) (errors new.errors.0) status
ListsFile contents errors gives opens begun now file named name old new (Err told) =
    (why : Why) × IsToldFor gives why told
    × IsFileListedInPart contents new.errors.1 opens begun now file named old.program.now name (errors old.errors.0) (errors new.errors.0) why
