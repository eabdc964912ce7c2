-- The line of a verdict, which ends by LF.
use Rattle.std.specs.Prelude.{ℕ, Bool, false, ◌++◌, List, bytes_eq, codes, decimal, Option, Some, Ok, Err}
use Rattle.tftp_packet.specs.{End}
use Rattle.tftp_judge.specs.{Refused, Refusal}
use Rattle.tftp_judge.specs.declared.refusal.Refusal.TheVariants as refusal
use Rattle.judge_tap.specs.{TapRefusal}
use Rattle.judge_tap.specs.declared.refusal.TapRefusal.TheVariants.{Aborted, Incomplete, Memory, NormalTooLong, Unlawful}
use Rattle.tftp_commands.specs.{checked}
use Rattle.audit_rows.specs.declared.found.Found.{Found}
use Rattle.audit_rows.specs.declared.found.Found.TheVariants.{AtEnd, Between}
use Rattle.tftp_rows.specs.Endings.{role_name}

-- that of `tftp-audit check`, of what is not accepted
abbrev pub refused_line : Refusal → List ℕ
refused_line refusal = (checked (Err (Refused refusal))).bytes

abbrev pub aborted_line : End → ℕ → List ℕ
aborted_line role code = codes "aborted by " ++ role_name role ++ codes " code " ++ decimal code ++ codes "\n"

-- between the ends the same, but that an ERROR is told by its sender
abbrev pub between_line : TapRefusal → List ℕ
between_line (Unlawful number rule stands) = refused_line (refusal.Unlawful number rule)
between_line (Aborted role code) = aborted_line role code
between_line (Incomplete count) = refused_line (refusal.Incomplete count)
between_line NormalTooLong = refused_line refusal.NormalTooLong
between_line (Memory count) = refused_line (refusal.Memory count)

abbrev pub verdict_line : Found → List ℕ
verdict_line (AtEnd (Ok m)) = (checked (Ok m)).bytes
verdict_line (AtEnd (Err refusal)) = refused_line refusal
verdict_line (Between (Ok m)) = (checked (Ok m)).bytes
verdict_line (Between (Err refusal)) = between_line refusal

-- Both ends were judged, and their verdicts have the same words.
abbrev pub has_same_words : Option Found → Option Found → Bool
has_same_words (Some client) (Some server) = bytes_eq (verdict_line client) (verdict_line server)
has_same_words _ _ = false
