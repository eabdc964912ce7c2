-- What was written of a text whose file was asked for.
use Rattle.std.proofs.Common.{◌≡◌, ℕ, List, Bool, true, false, true≢false, Option, Some, Result, Ok, Err, refl, sym, ap, ◌∙◌, subst}
use Rattle.std.specs.Io.KnownBytes.{Consumes, IsAtEnd}
use Rattle.net_streams.specs.Streams.{IsFresh, Sink}
use Rattle.tftp_packet.specs.{Rollover}
use Rattle.law_model.specs.Model.{Meaning}
use Rattle.tftp_judge.specs.{Extracts, EndsText, IsReadVerdictBy, IsTextVerdictBy, SaysReadFailed, OutFault, Verdict}
use Rattle.tftp_judge.specs.declared.extraction.OutFault.TheVariants as fault
use Rattle.tftp_commands.specs.{Status, verdict_status, IsExtracted, extracted, Output, Prints, Runs, given, so_far}
use Rattle.tftp_commands.specs.declared.status.Status.TheVariants as status
use Rattle.tftp_commands.proofs.Written.{cut_fresh, printed_fresh, printed_none}

abbrev pub status_after : Result (Unit {0}) OutFault → Status
status_after (Ok done) = status.Success
status_after (Err fault.Write) = status.Fault
status_after (Err (fault.Verdict verdict)) = verdict_status verdict

module _ (rollover : Option Rollover) {W : Type 0} (contents : W → Option (List ℕ)) (old new : Sink W) where
  written : (said : Result Meaning Verdict) (result : Result (Unit {0}) OutFault) → IsFresh old → Extracts contents old new said result → Prints contents old new (extracted said) (status_after result)
  written (Ok m) (Ok done) fresh is = printed_fresh contents old new m.file status.Success fresh is
  written (Ok m) (Err fault.Write) fresh is = cut_fresh contents old new m.file status.Success fresh is
  written (Ok m) (Err (fault.Verdict other)) fresh is = absurd is
  written (Err verdict) (Ok done) fresh is = absurd is
  written (Err verdict) (Err fault.Write) fresh is = absurd is
  written (Err verdict) (Err (fault.Verdict other)) fresh is = printed_none contents old new (verdict_status verdict) (verdict_status other) fresh is.1 (ap verdict_status is.0)

  -- what is said of a text that is not accepted is said once
  same_failure : (one two : Result Meaning Verdict) (result : Result (Unit {0}) OutFault) → Extracts contents old new one result → Extracts contents old new two result → SaysReadFailed two → SaysReadFailed one
  same_failure one (Ok m) result is also h = absurd h
  same_failure (Ok m) (Err verdict) (Ok done) is also h = absurd also
  same_failure (Ok m) (Err verdict) (Err fault.Write) is also h = absurd also
  same_failure (Ok m) (Err verdict) (Err (fault.Verdict other)) is also h = absurd is
  same_failure (Err first) (Err verdict) (Ok done) is also h = absurd also
  same_failure (Err first) (Err verdict) (Err fault.Write) is also h = absurd also
  same_failure (Err first) (Err verdict) (Err (fault.Verdict other)) is also h = subst (λ v. SaysReadFailed (Err v)) (sym also.0 ∙ is.0) h

  module _ (before after : Option (List ℕ)) (failed : Bool) (result : Result (Unit {0}) OutFault) (fresh : IsFresh old) where
    -- what was said of what was read, as `extract` of the judge tells it
    abbrev pub Told : Type 0
    Told =
        (read : List ℕ) × (said : Result Meaning Verdict) × Consumes before after read × IsReadVerdictBy rollover read said × (EndsText said → IsAtEnd after) × (SaysReadFailed said → failed ≡ true) × (failed ≡ true → SaysReadFailed said)
        × Extracts contents old new said result

    extracted_said : Told → (read : List ℕ) × (output : Output) × Consumes before after read × IsExtracted rollover (so_far read after failed) output
        × Prints contents old new output (status_after result)
    extracted_said (read, said, consumed, is_said, at_end, reads, tally, is) = (
      read,
      extracted said,
      consumed,
      record { said = said; judged = record { is_said = is_said; at_end = at_end; failed = (reads, tally) }; is = refl },
      written said result fresh is,
    )

    extracted_whole : Told → failed ≡ false → (text : List ℕ) → (said : Result Meaning Verdict) × IsTextVerdictBy rollover text said × Extracts contents old new said result
        → (output : Output) × IsExtracted rollover (given text) output × Prints contents old new output (status_after result)
    extracted_whole (read, one, consumed, is_said, at_end, reads, tally, was) sound text (said, is_text, is) = (
      extracted said,
      record {
        said = said;
        judged = record {
          is_said = is_text;
          at_end = λ ends. refl;
          failed = (λ h. absurd (true≢false (sym (reads (same_failure one said result was is h)) ∙ sound)), λ e. absurd (true≢false (sym e)));
        };
        is = refl;
      },
      written said result fresh is,
    )

  pub extracted_runs : {R : Type 0} (remaining : R → Option (List ℕ)) (r0 r1 : R × Bool) (result : Result (Unit {0}) OutFault) (fresh : IsFresh old) → Told (remaining r0.0) (remaining r1.0) r1.1 result fresh
      → ((text : List ℕ) → remaining r0.0 ≡ Some text → r1.1 ≡ false → (said : Result Meaning Verdict) × IsTextVerdictBy rollover text said × Extracts contents old new said result)
      → Runs remaining contents (IsExtracted rollover) r0 r1 old new (status_after result)
  extracted_runs remaining r0 r1 result fresh told whole = record {
    said = extracted_said (remaining r0.0) (remaining r1.0) r1.1 result fresh told;
    whole = λ text tells sound. extracted_whole (remaining r0.0) (remaining r1.0) r1.1 result fresh told sound text (whole text tells sound);
  }
