-- What there is to say of the text that a run reads; `rollover` is what comes after block 65535, where anything does.
use Rattle.std.specs.Prelude.{◌≡◌, ◌↔◌, ℕ, List, true, Option, Result}
use Rattle.std.specs.Io.KnownBytes.{IsAtEnd}
use Rattle.tftp_packet.specs.{Rollover}
use Rattle.law_model.specs.Model.{Meaning}
use Rattle.tftp_judge.specs.{EndsText, IsReadVerdictBy, IsTextVerdictBy, SaysReadFailed, Verdict}
use Rattle.tftp_commands.specs.Outputs.{Output}
use Rattle.tftp_commands.specs.Sources.{AsGiven, AsRead, Extent, Source}

-- Said of all that was read, where being out of memory is for the first line before any byte, or for the datagram on the
-- last line that was taken; or said of a text that was given whole.
abbrev pub IsSaid : Option Rollover → Extent → List ℕ → Result Meaning Verdict → Type 0
IsSaid rollover AsRead read said = IsReadVerdictBy rollover read said
IsSaid rollover AsGiven text said = IsTextVerdictBy rollover text said

-- This is what there is to say of the source. What is said of a whole text, and the fault Truncated, come at the
-- source's end; and that a read failed is said exactly where one did.
pub record IsJudged (rollover : Option Rollover) (source : Source) (said : Result Meaning Verdict) : Type 0 where
  pub is_said : IsSaid rollover source.extent source.read said
  pub at_end : EndsText said → IsAtEnd source.left
  pub failed : SaysReadFailed said ↔ (source.failed ≡ true)

-- the output is the one that a command has for what there is to say of what was read
pub record IsToldBy (rollover : Option Rollover) (answer : Result Meaning Verdict → Output) (source : Source) (output : Output) : Type 0 where
  pub said : Result Meaning Verdict
  pub judged : IsJudged rollover source said
  pub is : output ≡ answer said
