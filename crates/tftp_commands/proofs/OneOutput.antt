-- Output is one, where memory was not wanting.
use Rattle.std.proofs.Common.{◌≡◌, inl, inr, ℕ, ◌==◌, List, [], ◌∷◌, length, Option, Result, Ok, Err, sym, ap, ◌∙◌, arith, length-append}
use Rattle.std.specs.List.{slice_split}
use Rattle.tftp_capture.specs.{Due, Numbered, Unfinished}
use Rattle.tftp_capture.specs.declared.fault.CaptureFault.TheVariants.{Text, Read}
use Rattle.law_model.specs.Model.{Meaning}
use Rattle.tftp_packet.specs.{Rollover}
use Rattle.tftp_judge.specs.{IsOfText, IsTextVerdictBy, SaysReadFailed, Verdict, Capture, Refused}
use Rattle.tftp_judge.proofs.ReadVerdicts.{read_is_text}
use Rattle.tftp_commands.specs.{AsGiven, AsRead, Extent, IsChecked, checked, IsCounted, counted, IsExtracted, extracted, IsJudged, IsNormalised, normalised, IsSaid, SaysNoMemory, Output, Source}

-- ---- what is said is one

-- what is said of the text does not say that a read failed
of_text_or_read : (v : Result Meaning Verdict) → IsOfText v → SaysReadFailed v → ⊥
of_text_or_read (Ok m) of h = h
of_text_or_read (Err (Refused r)) of h = h
of_text_or_read (Err (Capture (Text line fault))) of h = h
of_text_or_read (Err (Capture _)) of h = of

-- the line of a read that failed
pub last_line_is : (text : List ℕ) (ds : List Numbered) (line : ℕ) (due : Due) → Unfinished text ds line due → line ≡ length (slice_split (λ b. b == 10) text)
last_line_is text ds line due u = u.at_line ∙ omega (arith, ap length u.stands.divided, length-append u.lines (u.rest ∷ []))

same_read : (rollover : Option Rollover) (text : List ℕ) (v w : Result Meaning Verdict) → SaysReadFailed v → SaysReadFailed w → IsTextVerdictBy rollover text v → IsTextVerdictBy rollover text w → v ≡ w
same_read rollover text (Err (Capture (Read line))) (Err (Capture (Read other))) h too ((ds, due, ends), lawful) ((es, also, stops), legal) =
    ap (λ l. Err (Capture (Read l))) (last_line_is text ds line due ends ∙ sym (last_line_is text es other also stops))
same_read rollover text (Err (Capture (Read line))) _ h too is also = absurd too
same_read rollover text _ w h too is also = absurd h

-- what is said of what was read is said of it as a text
said_of_text : (rollover : Option Rollover) (extent : Extent) (read : List ℕ) (v : Result Meaning Verdict) → IsSaid rollover extent read v → IsTextVerdictBy rollover read v
said_of_text rollover AsRead read v is = read_is_text rollover read v is
said_of_text rollover AsGiven text v is = is

text_verdict : (rollover : Option Rollover) (source : Source) (v : Result Meaning Verdict) → IsJudged rollover source v → IsTextVerdictBy rollover source.read v
text_verdict rollover source v is = said_of_text rollover source.extent source.read v is.is_said

-- of a text there is one verdict
abbrev pub OneVerdict : Type 0
OneVerdict = (rollover : Option Rollover) (text : List ℕ) (v w : Result Meaning Verdict) → IsOfText v → IsOfText w → IsTextVerdictBy rollover text v → IsTextVerdictBy rollover text w → v ≡ w

module _ (one_verdict : OneVerdict) (source : Source) where
  one_said : (rollover : Option Rollover) (v w : Result Meaning Verdict) → SaysNoMemory v → SaysNoMemory w → IsJudged rollover source v → IsJudged rollover source w → v ≡ w
  one_said rollover v w (inl of) (inl too) is also = one_verdict rollover source.read v w of too (text_verdict rollover source v is) (text_verdict rollover source w also)
  one_said rollover v w (inl of) (inr too) is also = absurd (of_text_or_read v of (is.failed.1 (also.failed.0 too)))
  one_said rollover v w (inr of) (inl too) is also = absurd (of_text_or_read w too (also.failed.1 (is.failed.0 of)))
  one_said rollover v w (inr of) (inr too) is also = same_read rollover source.read v w of too (text_verdict rollover source v is) (text_verdict rollover source w also)

  pub one_checked : (rollover : Option Rollover) (one other : Output) (first : IsChecked rollover source one) (second : IsChecked rollover source other) → SaysNoMemory first.said → SaysNoMemory second.said → one ≡ other
  one_checked rollover one other first second of too = first.is ∙ ap checked (one_said rollover first.said second.said of too first.judged second.judged) ∙ sym second.is

  pub one_extracted : (rollover : Option Rollover) (one other : Output) (first : IsExtracted rollover source one) (second : IsExtracted rollover source other) → SaysNoMemory first.said → SaysNoMemory second.said → one ≡ other
  one_extracted rollover one other first second of too = first.is ∙ ap extracted (one_said rollover first.said second.said of too first.judged second.judged) ∙ sym second.is

  pub one_normalised : (rollover : Option Rollover) (one other : Output) (first : IsNormalised rollover source one) (second : IsNormalised rollover source other) → SaysNoMemory first.said → SaysNoMemory second.said → one ≡ other
  one_normalised rollover one other first second of too = first.is ∙ ap (normalised rollover) (one_said rollover first.said second.said of too first.judged second.judged) ∙ sym second.is

  pub one_counted : (rollover : Option Rollover) (one other : Output) (first : IsCounted rollover source one) (second : IsCounted rollover source other) → SaysNoMemory first.said → SaysNoMemory second.said → one ≡ other
  one_counted rollover one other first second of too = first.is ∙ ap counted (one_said rollover first.said second.said of too first.judged second.judged) ∙ sym second.is
