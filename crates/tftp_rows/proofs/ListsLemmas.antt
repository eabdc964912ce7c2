-- What is listed of a file, by what is listed of a recording.
use Rattle.std.proofs.Common.{◌≡◌, ℕ, Bool, false, List, Option, Result, Ok, Err, IsErr, IsErrAnd, inl, inr, sym, ap, subst, ◌∙◌, true≢false, if◌then◌else◌}
use Rattle.std.specs.Io.KnownBytes.{Appends}
use Rattle.audit_recording.specs.Session.Noted.{AreNotesOf, Noticed, frames_in, giving_up}
use Rattle.audit_recording.specs.declared.session.notes.Notes.{Notes}
use Rattle.tftp_rows.specs.Faults.{IsRemarkFault, IsTellFault}
use Rattle.tftp_rows.specs.Faults.Why.{Unopened, Stopped}
use Rattle.tftp_rows.specs.Files.{is_read_whole}
use Rattle.tftp_rows.specs.ListedWhole.{IsRecordingListed, IsRecordingListedInPart}
use Rattle.tftp_rows.specs.Lists.{IsFileListed, ListsFile}
use Rattle.tftp_rows.specs.Remarks.{SaysPart, remarks_text, rest_lines}
use Rattle.tftp_rows.specs.declared.lister.Lister.{Lister}
use Rattle.tftp_rows.specs.declared.reading.TellFault.{TellFault}
use Rattle.tftp_rows.specs.declared.remarks.Remarks.{Remarks}

module _ {W E : Type 0} (contents : W → Option (List ℕ)) (errors : E → Option (List ℕ)) (named name : List ℕ) (old new : Remarks E) where
  module _ (begun now : Lister W) (left file : Option (List ℕ)) (opens : left ≡ file) where
    pub file_listed : (notes : Notes) (whole : Bool) (status : ℕ) → IsRecordingListed contents begun now left named notes → ((s : Noticed) → AreNotesOf notes s → whole ≡ is_read_whole notes s)
        → status ≡ (if whole then 0 else 2) → ((s : Noticed) → AreNotesOf notes s → Appends (errors old.errors.0) (errors new.errors.0) (remarks_text old.program.now name (rest_lines notes s now.told)))
        → IsFileListed contents begun now file named old.program.now name (errors old.errors.0) (errors new.errors.0) status
    file_listed notes whole status listed so is said =
        let s = giving_up (frames_in listed.recording.waiting) listed.noticed in
        subst (λ f. IsFileListed contents begun now f named old.program.now name (errors old.errors.0) (errors new.errors.0) status) opens (record {
          notes = notes;
          listed = listed;
          said = said s listed.noted;
          is = is ∙ ap (λ w. if w then 0 else 2) (so s listed.noted);
        })

    pub file_in_part : {A : Type 0} (gives : TellFault → A → Type 0) (known : Bool) (r : Result ℕ A) (fault : TellFault) → IsErrAnd r (gives fault) → errors new.errors.0 ≡ errors old.errors.0
        → IsRecordingListedInPart contents begun now left named → IsTellFault left now.printer.writer.1 now.told fault → ListsFile contents errors gives known begun now file named name old new r
    file_in_part gives known (Ok x) fault is same part why = absurd is
    file_in_part gives known (Err e) fault is same part why =
        (Stopped fault, is, inl (subst (λ f. IsRecordingListedInPart contents begun now f named) opens part, same, subst (λ f. IsTellFault f now.printer.writer.1 now.told fault) opens why))

    pub file_untold : {A : Type 0} (gives : TellFault → A → Type 0) (known : Bool) (r : Result ℕ A) (fault : TellFault) → IsErrAnd r (gives fault) → IsRemarkFault new.errors.1 fault → (notes : Notes) → IsRecordingListed contents begun now left named notes
        → ((s : Noticed) → AreNotesOf notes s → SaysPart (errors old.errors.0) (errors new.errors.0) (remarks_text old.program.now name (rest_lines notes s now.told))) → ListsFile contents errors gives known begun now file named name old new r
    file_untold gives known (Ok x) fault is why notes listed said = absurd is
    file_untold gives known (Err e) fault is why notes listed said =
        let s = giving_up (frames_in listed.recording.waiting) listed.noticed in
        let all = subst (λ f. (listed : IsRecordingListed contents begun now f named notes)
        × SaysPart (errors old.errors.0) (errors new.errors.0) (remarks_text old.program.now name (rest_lines notes (giving_up (frames_in listed.recording.waiting) listed.noticed) now.told))) opens
        (listed, said s listed.noted) in
        (Stopped fault, is, inr (notes, all.0, all.1, why))

  pub file_unopened : {A : Type 0} (gives : TellFault → A → Type 0) (known : Bool) (begun now : Lister W) (file : Option (List ℕ)) → known ≡ false → now.printer ≡ begun.printer → (r : Result ℕ A) → IsErr r
      → errors new.errors.0 ≡ errors old.errors.0 → ListsFile contents errors gives known begun now file named name old new r
  file_unopened gives known begun now file not printed (Ok x) is same = absurd (true≢false (sym is))
  file_unopened gives known begun now file not printed (Err e) is same = (Unopened, tt, (not, printed, same))
