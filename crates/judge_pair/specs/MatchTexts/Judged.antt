-- What there is to say of one capture text that was judged beside another.
use Rattle.std.specs.Prelude.{◌≡◌, ◌⊎◌, ℕ, List, Bool, true, false, Option, None, Some, Result}
use Rattle.std.specs.Io.KnownBytes.{Consumes, IsAtEnd}
use Rattle.law_model.specs.Model.{Meaning}
use Rattle.tftp_packet.specs.{Rollover}
use Rattle.tftp_judge.specs.{EndsText, IsOfText, IsReadVerdictBy, IsTextVerdictBy, SaysReadFailed, WantsMemory, Verdict}

-- all that one ensures who judges the text of a reader alone; `rollover` is what comes after block 65535, where anything does
pub record IsJudgedBy (rollover : Option Rollover) (before after : Option (List ℕ)) (failed : Bool) (r : Result Meaning Verdict) : Type 0 where
  pub judged : (read : List ℕ) × Consumes before after read × IsReadVerdictBy rollover read r
  pub ended : EndsText r → IsAtEnd after
  pub read : SaysReadFailed r → failed ≡ true
  pub tally : failed ≡ true → SaysReadFailed r
  pub whole : (text : List ℕ) → before ≡ Some text → failed ≡ false → IsTextVerdictBy rollover text r
  pub exact : (text : List ℕ) (said : Result Meaning Verdict) → before ≡ Some text → failed ≡ false → IsOfText said → IsTextVerdictBy rollover text said → (r ≡ said) ⊎ WantsMemory r

-- the same of a text whose blocks go up to 65535
abbrev pub IsJudged : Option (List ℕ) → Option (List ℕ) → Bool → Result Meaning Verdict → Type 0
IsJudged = IsJudgedBy None
