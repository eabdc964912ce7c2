-- What was written of a text whose normal text was asked for.
use Rattle.std.proofs.Common.{◌≡◌, ◌⊎◌, inl, inr, ℕ, List, [], Bool, true, false, true≢false, Option, Some, Result, Ok, Err, refl, sym, ap, ◌∙◌, subst}
use Rattle.std.specs.Io.KnownBytes.{Consumes, IsAtEnd}
use Rattle.net_streams.specs.Streams.{IsFresh, Sink}
use Rattle.tftp_packet.specs.{Rollover}
use Rattle.law_model.specs.Model.{Meaning}
use Rattle.tftp_judge.specs.{EndsText, IsReadVerdictBy, IsTextVerdictBy, SaysReadFailed, Verdict}
use Rattle.tftp_normal.specs.{normal_text_by, Normalises, NormalFault}
use Rattle.tftp_normal.specs.declared.fault.NormalFault.TheVariants as fault
use Rattle.tftp_commands.specs.{Status, verdict_status, IsJudged, IsNormalised, IsUnwritten, normalised, Output, Prints, Runs, Source, given, so_far}
use Rattle.tftp_commands.specs.declared.status.Status.TheVariants as status
use Rattle.tftp_commands.proofs.Written.{cut_fresh, printed_fresh, printed_none}

abbrev pub status_after : Result (Unit {0}) NormalFault → Status
status_after (Ok done) = status.Success
status_after (Err fault.Write) = status.Fault
status_after (Err fault.Memory) = status.Fault
status_after (Err (fault.Verdict verdict)) = verdict_status verdict

-- the output of what is accepted, by how the writing of it ended
abbrev pub accepted_output : Option Rollover → Meaning → Result (Unit {0}) NormalFault → Output
accepted_output rollover m (Ok done) = normalised rollover (Ok m)
accepted_output rollover m (Err fault.Write) = normalised rollover (Ok m)
accepted_output rollover m (Err fault.Memory) = record { bytes = []; status = status.Fault }
accepted_output rollover m (Err (fault.Verdict verdict)) = normalised rollover (Ok m)

abbrev pub output_of : Option Rollover → Result Meaning Verdict → Result (Unit {0}) NormalFault → Output
output_of rollover (Ok m) result = accepted_output rollover m result
output_of rollover (Err verdict) result = normalised rollover (Err verdict)

-- the output is that of what is said, or memory was wanting to write it
abbrev pub IsRight : Option Rollover → Source → Output → Type 0
IsRight rollover source output = IsNormalised rollover source output ⊎ IsUnwritten rollover source output

right_of : (rollover : Option Rollover) (source : Source) (said : Result Meaning Verdict) (result : Result (Unit {0}) NormalFault) → IsJudged rollover source said → IsRight rollover source (output_of rollover said result)
right_of rollover source (Ok m) (Ok done) judged = inl (record { said = Ok m; judged = judged; is = refl })
right_of rollover source (Ok m) (Err fault.Write) judged = inl (record { said = Ok m; judged = judged; is = refl })
right_of rollover source (Ok m) (Err fault.Memory) judged = inr (m, judged, refl)
right_of rollover source (Ok m) (Err (fault.Verdict verdict)) judged = inl (record { said = Ok m; judged = judged; is = refl })
right_of rollover source (Err verdict) result judged = inl (record { said = Err verdict; judged = judged; is = refl })

module _ (rollover : Option Rollover) {W : Type 0} (contents : W → Option (List ℕ)) (old new : Sink W) where
  written : (said : Result Meaning Verdict) (result : Result (Unit {0}) NormalFault) → IsFresh old → Normalises rollover contents old new said result → Prints contents old new (output_of rollover said result) (status_after result)
  written (Ok m) (Ok done) fresh is = printed_fresh contents old new (normal_text_by rollover m) status.Success fresh is
  written (Ok m) (Err fault.Write) fresh is = cut_fresh contents old new (normal_text_by rollover m) status.Success fresh is
  written (Ok m) (Err fault.Memory) fresh is = printed_none contents old new status.Fault status.Fault fresh is refl
  written (Ok m) (Err (fault.Verdict other)) fresh is = absurd is
  written (Err verdict) (Ok done) fresh is = absurd is
  written (Err verdict) (Err fault.Write) fresh is = absurd is
  written (Err verdict) (Err fault.Memory) fresh is = absurd is
  written (Err verdict) (Err (fault.Verdict other)) fresh is = printed_none contents old new (verdict_status verdict) (verdict_status other) fresh is.1 (ap verdict_status is.0)

  -- what is said of a text that is not accepted is said once
  same_failure : (one two : Result Meaning Verdict) (result : Result (Unit {0}) NormalFault) → Normalises rollover contents old new one result → Normalises rollover contents old new two result → SaysReadFailed two → SaysReadFailed one
  same_failure one (Ok m) result is also h = absurd h
  same_failure (Ok m) (Err verdict) (Ok done) is also h = absurd also
  same_failure (Ok m) (Err verdict) (Err fault.Write) is also h = absurd also
  same_failure (Ok m) (Err verdict) (Err fault.Memory) is also h = absurd also
  same_failure (Ok m) (Err verdict) (Err (fault.Verdict other)) is also h = absurd is
  same_failure (Err first) (Err verdict) (Ok done) is also h = absurd also
  same_failure (Err first) (Err verdict) (Err fault.Write) is also h = absurd also
  same_failure (Err first) (Err verdict) (Err fault.Memory) is also h = absurd also
  same_failure (Err first) (Err verdict) (Err (fault.Verdict other)) is also h = subst (λ v. SaysReadFailed (Err v)) (sym also.0 ∙ is.0) h

  module _ (before after : Option (List ℕ)) (failed : Bool) (result : Result (Unit {0}) NormalFault) (fresh : IsFresh old) where
    -- what was said of what was read, as `normalise` tells it
    abbrev pub Told : Type 0
    Told =
        (read : List ℕ) × (said : Result Meaning Verdict) × Consumes before after read × IsReadVerdictBy rollover read said × (EndsText said → IsAtEnd after) × (SaysReadFailed said → failed ≡ true) × (failed ≡ true → SaysReadFailed said)
        × Normalises rollover contents old new said result

    normalised_said : Told → (read : List ℕ) × (output : Output) × Consumes before after read × IsRight rollover (so_far read after failed) output
        × Prints contents old new output (status_after result)
    normalised_said (read, said, consumed, is_said, at_end, reads, tally, is) = (
      read,
      output_of rollover said result,
      consumed,
      right_of rollover (so_far read after failed) said result (record { is_said = is_said; at_end = at_end; failed = (reads, tally) }),
      written said result fresh is,
    )

    normalised_whole : Told → failed ≡ false → (text : List ℕ) → (said : Result Meaning Verdict) × IsTextVerdictBy rollover text said × Normalises rollover contents old new said result
        → (output : Output) × IsRight rollover (given text) output × Prints contents old new output (status_after result)
    normalised_whole (read, one, consumed, is_said, at_end, reads, tally, was) sound text (said, is_text, is) = (
      output_of rollover said result,
      right_of rollover (given text) said result (record {
        is_said = is_text;
        at_end = λ ends. refl;
        failed = (λ h. absurd (true≢false (sym (reads (same_failure one said result was is h)) ∙ sound)), λ e. absurd (true≢false (sym e)));
      }),
      written said result fresh is,
    )

  pub normalised_runs : {R : Type 0} (remaining : R → Option (List ℕ)) (r0 r1 : R × Bool) (result : Result (Unit {0}) NormalFault) (fresh : IsFresh old) → Told (remaining r0.0) (remaining r1.0) r1.1 result fresh
      → ((text : List ℕ) → remaining r0.0 ≡ Some text → r1.1 ≡ false → (said : Result Meaning Verdict) × IsTextVerdictBy rollover text said × Normalises rollover contents old new said result)
      → Runs remaining contents (IsRight rollover) r0 r1 old new (status_after result)
  normalised_runs remaining r0 r1 result fresh told whole = record {
    said = normalised_said (remaining r0.0) (remaining r1.0) r1.1 result fresh told;
    whole = λ text tells sound. normalised_whole (remaining r0.0) (remaining r1.0) r1.1 result fresh told sound text (whole text tells sound);
  }
