-- A run of a command that says in its output what there is to say of a text.
use Rattle.std.proofs.Common.{◌≡◌, ℕ, List, Bool, false, true, Option, Some, Result, refl, sym, ◌∙◌}
use Rattle.std.proofs.lemmas.Bool.{false≢true}
use Rattle.std.specs.Io.KnownBytes.{Consumes, IsAtEnd}
use Rattle.net_streams.specs.Streams.{Sink}
use Rattle.tftp_packet.specs.{Rollover}
use Rattle.law_model.specs.Model.{Meaning}
use Rattle.tftp_judge.specs.{EndsText, IsReadVerdictBy, IsTextVerdictBy, SaysReadFailed, Verdict}
use Rattle.tftp_commands.specs.{Status, IsToldBy, Output, Prints, Runs}

pub judged_runs : (rollover : Option Rollover) {R W : Type 0} (remaining : R → Option (List ℕ)) (contents : W → Option (List ℕ)) (answer : Result Meaning Verdict → Output) (r0 r1 : R × Bool) (w0 w1 : Sink W) (said : Result Meaning Verdict) (status : Status)
    → (read : List ℕ) × Consumes (remaining r0.0) (remaining r1.0) read × IsReadVerdictBy rollover read said → (EndsText said → IsAtEnd (remaining r1.0)) → (SaysReadFailed said → r1.1 ≡ true) → (r1.1 ≡ true → SaysReadFailed said)
    → ((text : List ℕ) → remaining r0.0 ≡ Some text → r1.1 ≡ false → IsTextVerdictBy rollover text said)
    → Prints contents w0 w1 (answer said) status → Runs remaining contents (IsToldBy rollover answer) r0 r1 w0 w1 status
judged_runs rollover remaining contents answer r0 r1 w0 w1 said status judged ended reads tally whole written = record {
  said = (
    judged.0,
    answer said,
    judged.1,
    record { said = said; judged = record { is_said = judged.2; at_end = ended; failed = (reads, tally) }; is = refl },
    written,
  );
  whole = λ text tells clean. (
    answer said,
    record {
      said = said;
      judged = record {
        is_said = whole text tells clean;
        at_end = λ _. refl;
        failed = (λ h. sym clean ∙ reads h, λ failed. absurd (false≢true failed));
      };
      is = refl;
    },
    written,
  );
}
