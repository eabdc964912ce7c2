-- The texts of transfers, one behind the other: with one more, and where a fault comes.
use Rattle.std.proofs.Common.{arith, ◌≡◌, ◌+◌, ◌++◌, ◌∷◌, ℕ, Bool, true, false, List, [], append_assoc, append-nil, length, Option, Some, None, Result, Ok, Err, IsErrAnd, refl, sym, ap, subst, ◌∙◌, if◌then◌else◌}
use Rattle.std.specs.Io.KnownBytes.{Appends}
use Rattle.std.proofs.KnownBytes.{Appends-nil, Appends-trans}
use Rattle.std.proofs.lemmas.Grind.{flat_map-append}
use Rattle.std.specs.declared.alloc.AllocError.{AllocError}
use Rattle.net_streams.specs.Streams.{IsFresh, Sink}
use Rattle.std.specs.List.{slice_get}
use Rattle.audit_recording.proofs.SessionLemmas.Ordered.{count_is, ordinal_at}
use Rattle.audit_recording.specs.Blame.Frames.{Carried, datagrams_of, whole_of}
use Rattle.audit_recording.specs.Session.Noted.{Noticed}
use Rattle.audit_recording.specs.Session.Texts.{IsTextFault, opened_count, opened_numbers, ordinal}
use Rattle.audit_recording.specs.declared.session.fault.TextFault.TheVariants.{NotWhole}
use Rattle.audit_recording.specs.declared.session.notes.Notes.{Notes}
use Rattle.tftp_rows.specs.Faults.{IsRemarkFault}
use Rattle.tftp_rows.specs.Remarks.{SaysPart, lacking_line, remark_text, remarks_text}
use Rattle.tftp_rows.specs.Texts.{AreAllWritten, AreFirstWritten, AreSomeWritten, AreTexts, AreTextsStopped, IsOneStopped, IsRecordingRead, IsSaid, IsText, Texts, WritesEach, WritesFileTexts, WritesTexts, all_texts, lacking_lines, lines_of, noticed_by, status_of_texts}
use Rattle.tftp_rows.specs.Faults.Why.{Unopened, Stopped}
use Rattle.tftp_rows.specs.declared.reading.TellFault.{TellFault}
use Rattle.tftp_rows.specs.declared.remarks.Remarks.{Remarks}
use Rattle.tftp_rows.specs.declared.texts.TextsOf.{TextsOf}

-- ---- the number of a key

pub number_at : (named : List ℕ) (carried : List Carried) (numbers : List ℕ) (k key : ℕ) → numbers ≡ opened_numbers (whole_of named carried) → slice_get numbers k ≡ Some key → ordinal key (whole_of named carried) ≡ k + 1
number_at named carried numbers k key are there = ordinal_at named (datagrams_of carried) k key (subst (λ l. slice_get l k ≡ Some key) are there)

pub all_numbered : (named : List ℕ) (carried : List Carried) (numbers : List ℕ) → numbers ≡ opened_numbers (whole_of named carried) → length numbers ≡ opened_count (whole_of named carried)
all_numbered named carried numbers are = ap length are ∙ sym (count_is (whole_of named carried))

-- ---- lines that are told

pub part_after : (a b c : Option (List ℕ)) (x y : List ℕ) → Appends a b x → SaysPart b c y → SaysPart a c (x ++ y)
part_after a b c x y all part = (x ++ part.0, part.1, ap (λ z. x ++ z) part.2 ∙ sym (append_assoc x part.0 part.1), Appends-trans a b c x part.0 all part.3)

pub all_is_part : (a b : Option (List ℕ)) (x y : List ℕ) → Appends a b x → SaysPart a b (x ++ y)
all_is_part a b x y all = (x, y, refl, all)

module _ {E : Type 0} (errors : E → Option (List ℕ)) (of : TextsOf) (one two three : Remarks E) (same : two ≡ record one { errors = two.errors }) where
  program_is : two.program.now ≡ one.program.now
  program_is = ap (λ (r : Remarks E). r.program.now) same

  lines_both : (xs ys : List (List ℕ)) → remarks_text one.program.now of.file.now (xs ++ ys) ≡ remarks_text one.program.now of.file.now xs ++ remarks_text one.program.now of.file.now ys
  lines_both xs ys = flat_map-append (remark_text one.program.now of.file.now) xs ys

  -- some lines were told, and then others
  pub said_both : (xs ys : List (List ℕ)) → IsSaid errors one two of Appends xs → IsSaid errors two three of Appends ys → IsSaid errors one three of Appends (xs ++ ys)
  said_both xs ys first after =
      let next = subst (λ p. Appends (errors two.errors.0) (errors three.errors.0) (remarks_text p of.file.now ys)) program_is after in
      subst (Appends (errors one.errors.0) (errors three.errors.0)) (sym (lines_both xs ys)) (Appends-trans (errors one.errors.0) (errors two.errors.0) (errors three.errors.0) _ _ first next)

  -- or a part of others
  pub said_part : (xs ys : List (List ℕ)) → IsSaid errors one two of Appends xs → IsSaid errors two three of SaysPart ys → IsSaid errors one three of SaysPart (xs ++ ys)
  said_part xs ys first after =
      let next = subst (λ p. SaysPart (errors two.errors.0) (errors three.errors.0) (remarks_text p of.file.now ys)) program_is after in
      subst (SaysPart (errors one.errors.0) (errors three.errors.0)) (sym (lines_both xs ys)) (part_after (errors one.errors.0) (errors two.errors.0) (errors three.errors.0) _ _ first next)

-- ---- that one has no text

module _ {E : Type 0} (errors : E → Option (List ℕ)) (of : TextsOf) (remarks told : Remarks E) (number : ℕ) where
  one_line : remark_text remarks.program.now of.file.now (lacking_line number) ≡ remarks_text remarks.program.now of.file.now (lacking_line number ∷ [])
  one_line = sym (append-nil (remark_text remarks.program.now of.file.now (lacking_line number)))

  pub line_alone : Appends (errors remarks.errors.0) (errors told.errors.0) (remark_text remarks.program.now of.file.now (lacking_line number)) → IsSaid errors remarks told of Appends (lacking_line number ∷ [])
  line_alone said = subst (Appends (errors remarks.errors.0) (errors told.errors.0)) one_line said

  pub lacks_untold : SaysPart (errors remarks.errors.0) (errors told.errors.0) (remark_text remarks.program.now of.file.now (lacking_line number)) → IsSaid errors remarks told of SaysPart (lacking_line number ∷ [])
  lacks_untold said = subst (SaysPart (errors remarks.errors.0) (errors told.errors.0)) one_line said

-- that is not told
pub lacks_stop : {W E : Type 0} (contents : W → Option (List ℕ)) (errors : E → Option (List ℕ)) (of : TextsOf) (notes : Notes) (carried : List Carried) (s : Noticed) (remarks told : Remarks E) (writer : Sink W) (number : ℕ) (fault : TellFault)
    → IsRemarkFault told.errors.1 fault → IsTextFault notes.fault of.services.now carried s number of.end of.file.now NotWhole → IsSaid errors remarks told of SaysPart (lacking_line number ∷ [])
    → IsOneStopped contents errors of remarks told writer writer notes carried s number fault
lacks_stop contents errors of notes carried s remarks told writer number (TellFault.Alloc error) why lacks said = (lacks, refl, said)
lacks_stop contents errors of notes carried s remarks told writer number (TellFault.Remark error) why lacks said = (lacks, refl, said, why)
lacks_stop contents errors of notes carried s remarks told writer number (TellFault.Read fault) why lacks said = absurd why
lacks_stop contents errors of notes carried s remarks told writer number (TellFault.Print fault) why lacks said = absurd why
lacks_stop contents errors of notes carried s remarks told writer number TellFault.TooMany why lacks said = absurd why
lacks_stop contents errors of notes carried s remarks told writer number TellFault.TooManyFrames why lacks said = absurd why
lacks_stop contents errors of notes carried s remarks told writer number (TellFault.Text fault) why lacks said = absurd why
lacks_stop contents errors of notes carried s remarks told writer number TellFault.Unwritten why lacks said = absurd why

-- ---- one transfer more

module _ {W E : Type 0} (contents : W → Option (List ℕ)) (errors : E → Option (List ℕ)) (of : TextsOf) (notes : Notes) (carried : List Carried) (s : Noticed) where
  -- What was written of the first transfers, and told.
  pub record SoFar (remarks told : Remarks E) (writer wrote : Sink W) (count status : ℕ) : Type 0 where
    pub texts : Texts
    pub are : AreTexts of.end of.file.now of.services.now notes carried s texts
    pub many : length texts ≡ count
    pub said : IsSaid errors remarks told of Appends (lacking_lines texts)
    pub same : told ≡ record remarks { errors = told.errors }
    pub written : Appends (contents writer.inner) (contents wrote.inner) (all_texts texts)
    pub is : status ≡ status_of_texts texts
    pub fresh : IsFresh wrote

  pub none_so_far : (remarks : Remarks E) (writer : Sink W) → IsFresh writer → SoFar remarks remarks writer writer 0 0
  none_so_far remarks writer fresh = record {
    texts = [];
    are = tt;
    many = refl;
    said = Appends-nil (errors remarks.errors.0);
    same = refl;
    written = Appends-nil (contents writer.inner);
    is = refl;
    fresh = fresh;
  }

  module _ (remarks told : Remarks E) (writer written : Sink W) (count status : ℕ) (so : SoFar remarks told writer written count status) where
    -- its text was written
    pub one_written : (next : Remarks E) (after : Sink W) (text : List ℕ) → next ≡ told → IsText of.end of.file.now of.services.now notes carried s (count + 1) text → Appends (contents written.inner) (contents after.inner) text → IsFresh after
        → SoFar remarks next writer after (count + 1) status
    one_written next after text same is appended fresh = record {
      texts = Some text ∷ so.texts;
      are = (subst (λ n. IsText of.end of.file.now of.services.now notes carried s (n + 1) text) (sym so.many) is, so.are);
      many = omega (arith, so.many);
      said = subst (λ (r : Remarks E). IsSaid errors remarks r of Appends (lacking_lines so.texts)) (sym same) so.said;
      same = subst (λ (r : Remarks E). r ≡ record remarks { errors = r.errors }) (sym same) so.same;
      written = Appends-trans (contents writer.inner) (contents written.inner) (contents after.inner) (all_texts so.texts) text so.written appended;
      is = so.is;
      fresh = fresh;
    }

    -- it has none
    pub one_lacks : (next : Remarks E) (after : Sink W) → IsTextFault notes.fault of.services.now carried s (count + 1) of.end of.file.now NotWhole → IsSaid errors told next of Appends (lacking_line (count + 1) ∷ [])
        → next ≡ record told { errors = next.errors } → after ≡ written → SoFar remarks next writer after (count + 1) 2
    one_lacks next after lacks said same stays = record {
      texts = None ∷ so.texts;
      are = (subst (λ n. IsTextFault notes.fault of.services.now carried s (n + 1) of.end of.file.now NotWhole) (sym so.many) lacks, so.are);
      many = omega (arith, so.many);
      said = subst (λ n. IsSaid errors remarks next of Appends (lacking_lines so.texts ++ lacking_line (n + 1) ∷ [])) (sym so.many)
          (said_both errors of remarks told next so.same (lacking_lines so.texts) (lacking_line (count + 1) ∷ []) so.said said);
      same = same ∙ ap (λ (r : Remarks E). record r { errors = next.errors }) so.same;
      written = subst (λ (w : Sink W). Appends (contents writer.inner) (contents w.inner) (all_texts so.texts)) (sym stays) so.written;
      is = refl;
      fresh = subst IsFresh (sym stays) so.fresh;
    }

    lacks_part : (next : Remarks E) (after : Sink W) → IsTextFault notes.fault of.services.now carried s (count + 1) of.end of.file.now NotWhole → after ≡ written → IsSaid errors told next of SaysPart (lacking_line (count + 1) ∷ [])
        → AreFirstWritten contents errors of remarks next writer after notes carried s [] SaysPart (contents after.inner)
    lacks_part next after lacks stays said = record {
      texts = None ∷ so.texts;
      are = (subst (λ n. IsTextFault notes.fault of.services.now carried s (n + 1) of.end of.file.now NotWhole) (sym so.many) lacks, so.are);
      said = subst (λ n. IsSaid errors remarks next of SaysPart (lacking_lines so.texts ++ lacking_line (n + 1) ∷ [])) (sym so.many)
          (said_part errors of remarks told next so.same (lacking_lines so.texts) (lacking_line (count + 1) ∷ []) so.said said);
      written = subst (λ (w : Sink W). Appends (contents writer.inner) (contents w.inner) (all_texts so.texts)) (sym stays) so.written;
    }

    -- a fault comes
    pub one_stops : (next : Remarks E) (after : Sink W) (fault : TellFault) → IsOneStopped contents errors of told next written after notes carried s (count + 1) fault
        → AreSomeWritten contents errors of remarks next writer after notes carried s [] fault
    one_stops next after (TellFault.Alloc error) stops = lacks_part next after stops.0 stops.1 stops.2
    one_stops next after (TellFault.Remark error) stops = (lacks_part next after stops.0 stops.1 stops.2, stops.3)
    one_stops next after (TellFault.Text fault) stops = (
      record {
        texts = so.texts;
        are = so.are;
        said = subst (λ (r : Remarks E). IsSaid errors remarks r of Appends (lacking_lines so.texts)) (sym stops.2) so.said;
        written = subst (λ (w : Sink W). Appends (contents writer.inner) (contents w.inner) (all_texts so.texts)) (sym stops.1) so.written;
      },
      subst (λ n. IsTextFault notes.fault of.services.now carried s (n + 1) of.end of.file.now fault) (sym so.many) stops.0,
    )
    one_stops next after TellFault.Unwritten stops = (
      stops.1,
      contents written.inner,
      record {
        texts = so.texts;
        are = so.are;
        said = subst (λ (r : Remarks E). IsSaid errors remarks r of Appends (lacking_lines so.texts)) (sym stops.2) so.said;
        written = so.written;
      },
      stops.0.0,
      subst (λ n. IsText of.end of.file.now of.services.now notes carried s (n + 1) stops.0.0) (sym so.many) stops.0.1,
    )
    one_stops next after (TellFault.Read fault) stops = absurd stops
    one_stops next after (TellFault.Print fault) stops = absurd stops
    one_stops next after TellFault.TooMany stops = absurd stops
    one_stops next after TellFault.TooManyFrames stops = absurd stops

    pub each_stops : (next : Remarks E) (after : Sink W) (r : Result ℕ TellFault) (fault : TellFault) → IsErrAnd r (λ f. f ≡ fault) → IsOneStopped contents errors of told next written after notes carried s (count + 1) fault
        → WritesEach contents errors of remarks next writer after notes carried s [] r
    each_stops next after (Ok x) fault is stops = absurd is
    each_stops next after (Err f) fault is stops = subst (AreSomeWritten contents errors of remarks next writer after notes carried s []) (sym is) (one_stops next after fault stops)

    -- its text was written, or it has none
    pub one_more : (next : Remarks E) (after : Sink W) (has_text : Bool) → (has_text ≡ true → SoFar remarks next writer after (count + 1) status) → (has_text ≡ false → SoFar remarks next writer after (count + 1) 2)
        → SoFar remarks next writer after (count + 1) (if has_text then status else 2)
    one_more next after true has lacks = has refl
    one_more next after false has lacks = lacks refl

    -- they are all
    pub each_written : count ≡ opened_count (whole_of of.services.now carried) → AreAllWritten contents errors of remarks told writer written notes carried s [] status
    each_written all = record {
      first = record { texts = so.texts; are = so.are; said = so.said; written = so.written };
      all = so.many ∙ all;
      is = so.is;
      fresh = so.fresh;
    }

-- ---- behind what there is to tell of the recording as a whole

module _ {W E : Type 0} (contents : W → Option (List ℕ)) (errors : E → Option (List ℕ)) (of : TextsOf) (remarks between told : Remarks E) (same : between ≡ record remarks { errors = between.errors }) (writer written : Sink W)
    (notes : Notes) (carried : List Carried) (s : Noticed) (rest : List (List ℕ)) (noted : IsSaid errors remarks between of Appends rest) where
  abbrev first_all : (after : Option (List ℕ)) → AreFirstWritten contents errors of between told writer written notes carried s [] Appends after → AreFirstWritten contents errors of remarks told writer written notes carried s rest Appends after
  first_all after first = record { texts = first.texts; are = first.are; said = said_both errors of remarks between told same rest (lacking_lines first.texts) noted first.said; written = first.written }

  abbrev first_part : (after : Option (List ℕ)) → AreFirstWritten contents errors of between told writer written notes carried s [] SaysPart after → AreFirstWritten contents errors of remarks told writer written notes carried s rest SaysPart after
  first_part after first = record { texts = first.texts; are = first.are; said = said_part errors of remarks between told same rest (lacking_lines first.texts) noted first.said; written = first.written }

  some_after : (fault : TellFault) → AreSomeWritten contents errors of between told writer written notes carried s [] fault → AreSomeWritten contents errors of remarks told writer written notes carried s rest fault
  some_after (TellFault.Alloc error) stops = first_part (contents written.inner) stops
  some_after (TellFault.Remark error) stops = (first_part (contents written.inner) stops.0, stops.1)
  some_after (TellFault.Text fault) stops = (first_all (contents written.inner) stops.0, stops.1)
  some_after TellFault.Unwritten stops = (stops.0, stops.1, first_all stops.1 stops.2, stops.3, stops.4)
  some_after (TellFault.Read fault) stops = absurd stops
  some_after (TellFault.Print fault) stops = absurd stops
  some_after TellFault.TooMany stops = absurd stops
  some_after TellFault.TooManyFrames stops = absurd stops

  pub each_after : (r : Result ℕ TellFault) → WritesEach contents errors of between told writer written notes carried s [] r → WritesEach contents errors of remarks told writer written notes carried s rest r
  each_after (Ok status) all = record { first = first_all (contents written.inner) all.first; all = all.all; is = all.is; fresh = all.fresh }
  each_after (Err fault) stops = some_after fault stops

module _ {W E : Type 0} (contents : W → Option (List ℕ)) (errors : E → Option (List ℕ)) (of : TextsOf) (remarks told : Remarks E) (writer written : Sink W) (file : Option (List ℕ)) where
  -- the texts of all were written behind that, or a fault has come
  pub texts_by : (notes : Notes) (read : IsRecordingRead file of.services.now notes) (r : Result ℕ TellFault)
      → WritesEach contents errors of remarks told writer written notes read.carried (noticed_by read) (lines_of contents errors of remarks told writer written file read) r → WritesTexts contents errors of remarks told writer written file r
  texts_by notes read (Ok status) all = (notes, read, all)
  texts_by notes read (Err fault) stops = by fault stops where
    by : (fault : TellFault) → AreSomeWritten contents errors of remarks told writer written notes read.carried (noticed_by read) (lines_of contents errors of remarks told writer written file read) fault
        → AreTextsStopped contents errors of remarks told writer written file fault
    by (TellFault.Alloc error) stops = (notes, read, stops)
    by (TellFault.Remark error) stops = (notes, read, stops)
    by (TellFault.Text fault) stops = (notes, read, stops)
    by TellFault.Unwritten stops = (notes, read, stops)
    by (TellFault.Read fault) stops = absurd stops
    by (TellFault.Print fault) stops = absurd stops
    by TellFault.TooMany stops = absurd stops
    by TellFault.TooManyFrames stops = absurd stops

  -- a fault that is handed on
  pub texts_stop : (r : Result ℕ TellFault) (fault : TellFault) → IsErrAnd r (λ f. f ≡ fault) → AreTextsStopped contents errors of remarks told writer written file fault → WritesTexts contents errors of remarks told writer written file r
  texts_stop (Ok x) fault is stops = absurd is
  texts_stop (Err f) fault is stops = subst (AreTextsStopped contents errors of remarks told writer written file) (sym is) stops

  -- what there is to tell of the recording is not told, or not all of it
  pub rest_stops : (notes : Notes) (read : IsRecordingRead file of.services.now notes) (fault : TellFault) → IsRemarkFault told.errors.1 fault → written ≡ writer
      → IsSaid errors remarks told of SaysPart (lines_of contents errors of remarks told writer written file read) → AreTextsStopped contents errors of remarks told writer written file fault
  rest_stops notes read fault why stays said = by fault why where
    lines : List (List ℕ)
    lines = lines_of contents errors of remarks told writer written file read

    none : AreFirstWritten contents errors of remarks told writer written notes read.carried (noticed_by read) lines SaysPart (contents written.inner)
    none = record {
      texts = [];
      are = tt;
      said = subst (IsSaid errors remarks told of SaysPart) (sym (append-nil lines)) said;
      written = subst (λ (w : Sink W). Appends (contents writer.inner) (contents w.inner) []) (sym stays) (Appends-nil (contents writer.inner));
    }

    by : (fault : TellFault) → IsRemarkFault told.errors.1 fault → AreTextsStopped contents errors of remarks told writer written file fault
    by (TellFault.Alloc error) why = (notes, read, none)
    by (TellFault.Remark error) why = (notes, read, (none, why))
    by (TellFault.Text fault) why = absurd why
    by TellFault.Unwritten why = absurd why
    by (TellFault.Read fault) why = absurd why
    by (TellFault.Print fault) why = absurd why
    by TellFault.TooMany why = absurd why
    by TellFault.TooManyFrames why = absurd why

  -- memory was refused, and nothing is told
  pub none_told : (notes : Notes) (read : IsRecordingRead file of.services.now notes) (error : AllocError) → written ≡ writer
      → IsSaid errors remarks told of SaysPart (lines_of contents errors of remarks told writer written file read) → AreTextsStopped contents errors of remarks told writer written file (TellFault.Alloc error)
  none_told notes read error stays said = rest_stops notes read (TellFault.Alloc error) tt stays said

  -- ---- of a file that was opened

  pub file_texts_stop : {F : Type 0} (gives : TellFault → F → Type 0) (opens : Bool) (r : Result ℕ F) (fault : TellFault) → IsErrAnd r (gives fault) → AreTextsStopped contents errors of remarks told writer written file fault
      → WritesFileTexts contents errors of remarks told writer written gives opens file r
  file_texts_stop gives opens (Ok x) fault is stops = absurd is
  file_texts_stop gives opens (Err f) fault is stops = (Stopped fault, is, stops)

  pub file_texts_unopened : {F : Type 0} (gives : TellFault → F → Type 0) (opens : Bool) (r : Result ℕ F) → IsErrAnd r (λ f. Unit {0}) → opens ≡ false → contents written.inner ≡ contents writer.inner → errors told.errors.0 ≡ errors remarks.errors.0
      → WritesFileTexts contents errors of remarks told writer written gives opens file r
  file_texts_unopened gives opens (Ok x) is not same silent = absurd is
  file_texts_unopened gives opens (Err f) is not same silent = (Unopened, tt, (not, same, silent))
