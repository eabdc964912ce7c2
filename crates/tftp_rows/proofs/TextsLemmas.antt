-- What is written of a file's transfers, and what a fault leaves of it.
use Rattle.std.proofs.Common.{◌≡◌, ◌++◌, ℕ, Bool, true, false, true≢false, List, Option, Result, Ok, Err, IsErr, IsErrAnd, refl, sym, ap, subst, ◌∙◌}
use Rattle.std.specs.Io.KnownBytes.{Appends}
use Rattle.std.proofs.lemmas.Bool.{eq-eqb}
use Rattle.net_streams.specs.Streams.{IsFresh, Sink, Wrote}
use Rattle.audit_recording.specs.Blame.Frames.{Carried, whole_of}
use Rattle.audit_recording.specs.Session.Noted.{Noticed}
use Rattle.audit_recording.specs.Session.Opened.{IsReadWhole}
use Rattle.audit_recording.specs.Session.Texts.{IsTextAt, IsWhole, is_wanted, ordinal, text_of}
use Rattle.audit_recording.specs.declared.session.kept.Wanted.{Wanted}
use Rattle.audit_recording.specs.declared.session.kept.Wanted.TheVariants.{All, One}
use Rattle.audit_recording.specs.declared.session.notes.Notes.{Notes}
use Rattle.audit_recording.specs.declared.session.session.Session.{Session}
use Rattle.audit_recording.specs.declared.session.text.TextAt.{TextAt}
use Rattle.tftp_rows.specs.Faults.{IsRemarkFault}
use Rattle.tftp_rows.specs.Faults.Why.{Unopened, Stopped}
use Rattle.tftp_rows.specs.Remarks.{SaysPart}
use Rattle.tftp_rows.specs.Texts.{IsNoted, IsRecordingRead, IsText, IsTextStopped, WritesFileText, WritesText}
use Rattle.tftp_rows.specs.declared.reading.TellFault.{TellFault}
use Rattle.tftp_rows.specs.declared.remarks.Remarks.{Remarks}
use Rattle.tftp_rows.specs.declared.texts.TextsOf.{TextsOf}

-- ---- the recording that was read

abbrev pub read_by : (file : Option (List ℕ)) (session : Session) (named : List ℕ) → IsReadWhole file session named → IsRecordingRead file named session.notes
read_by file session named r = record {
  recording = r.recording;
  history = r.history;
  carried = r.carried;
  seen = r.noticed;
  read = record { bytes = r.bytes; left = r.left; had = r.had; frames = r.frames; at_end = r.at_end };
  ended = r.ended;
  came = r.closed.noticed;
  noted = r.closed.kept.notes;
}

pub wanted_one : (wanted : Wanted) (number : ℕ) → wanted ≡ One number → is_wanted wanted number ≡ true
wanted_one wanted number is = ap (λ w. is_wanted w number) is ∙ eq-eqb number number refl

pub wanted_all : (wanted : Wanted) (number : ℕ) → wanted ≡ All → is_wanted wanted number ≡ true
wanted_all wanted number is = ap (λ w. is_wanted w number) is

-- ---- a text that was found

pub text_by : (of : TextsOf) (notes : Notes) (carried : List Carried) (s : Noticed) (key number : ℕ) (found : TextAt) → IsTextAt found of.services.now carried key number of.end of.file.now
    → ordinal key (whole_of of.services.now carried) ≡ number → IsWhole notes.fault found.text.now.transfer of.services.now carried s
    → IsText of.end of.file.now of.services.now notes carried s number (text_of number of.end of.file.now found.text.now.transfer of.services.now carried)
text_by of notes carried s key number found at which whole = record { key = key; transfer = found.text.now.transfer; opened = at.opened; which = which; whole = whole; is = refl }

-- what was written behind nothing that waited
pub fresh_wrote : {W : Type 0} (contents : W → Option (List ℕ)) (old new : Sink W) (text : List ℕ) → IsFresh old → Wrote contents old new text → Appends (contents old.inner) (contents new.inner) text
fresh_wrote contents old new text fresh wrote = subst (λ waits. Appends (contents old.inner) (contents new.inner) (waits ++ text)) fresh.0 wrote.3

pub fresh_again : {W : Type 0} (contents : W → Option (List ℕ)) (old new : Sink W) (text : List ℕ) → Wrote contents old new text → IsFresh new
fresh_again contents old new text wrote = (wrote.2, wrote.1)

module _ {W E : Type 0} (contents : W → Option (List ℕ)) (errors : E → Option (List ℕ)) (of : TextsOf) (remarks told : Remarks E) (writer written : Sink W) (file : Option (List ℕ)) (number : ℕ) where
  -- ---- one text

  -- a fault that is handed on
  pub text_stops : {A : Type 0} (r : Result A TellFault) (fault : TellFault) → IsErrAnd r (λ f. f ≡ fault) → IsTextStopped contents errors of remarks told writer written file number fault → WritesText contents errors of remarks told writer written file number r
  text_stops (Ok x) fault is stops = absurd is
  text_stops (Err f) fault is stops = subst (IsTextStopped contents errors of remarks told writer written file number) (sym is) stops

  -- what there is to tell is not told, or not all of it
  pub notes_stop : (fault : TellFault) → IsRemarkFault told.errors.1 fault → contents written.inner ≡ contents writer.inner → IsNoted errors remarks told of file SaysPart → IsTextStopped contents errors of remarks told writer written file number fault
  notes_stop (TellFault.Alloc error) why same noted = (same, noted)
  notes_stop (TellFault.Remark error) why same noted = (same, noted, why)
  notes_stop (TellFault.Read fault) why same noted = absurd why
  notes_stop (TellFault.Print fault) why same noted = absurd why
  notes_stop TellFault.TooMany why same noted = absurd why
  notes_stop TellFault.TooManyFrames why same noted = absurd why
  notes_stop (TellFault.Text fault) why same noted = absurd why
  notes_stop TellFault.Unwritten why same noted = absurd why

  -- of a file that was opened, which holds this
  pub file_text_stops : {A F : Type 0} (gives : TellFault → F → Type 0) (opens : Bool) (r : Result A F) (fault : TellFault) → IsErrAnd r (gives fault) → IsTextStopped contents errors of remarks told writer written file number fault
      → WritesFileText contents errors of remarks told writer written gives opens file number r
  file_text_stops gives opens (Ok x) fault is stops = absurd is
  file_text_stops gives opens (Err f) fault is stops = (Stopped fault, is, stops)

  pub file_text_unopened : {A F : Type 0} (gives : TellFault → F → Type 0) (opens : Bool) (r : Result A F) → IsErr r → opens ≡ false → contents written.inner ≡ contents writer.inner → errors told.errors.0 ≡ errors remarks.errors.0
      → WritesFileText contents errors of remarks told writer written gives opens file number r
  file_text_unopened gives opens (Ok x) is not same silent = absurd (true≢false (sym is))
  file_text_unopened gives opens (Err f) is not same silent = (Unopened, tt, (not, same, silent))
