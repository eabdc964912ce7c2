-- The line of what was found is words of ASCII and LF.
use Rattle.std.proofs.Common.{◌++◌, Ok, Err, codes, decimal, refl, rules}
use Rattle.tftp_packet.specs.{End, Client, Server}
use Rattle.tftp_judge.specs.declared.refusal.Refusal.TheVariants as refusal
use Rattle.judge_tap.specs.{TapRefusal}
use Rattle.judge_tap.specs.declared.refusal.TapRefusal.TheVariants.{Aborted, Incomplete, Memory, NormalTooLong, Unlawful}
use Rattle.audit_rows.specs.declared.found.Found.{Found}
use Rattle.audit_rows.specs.declared.found.Found.TheVariants.{AtEnd, Between}
use Rattle.tftp_rows.specs.Endings.{role_name}
use Rattle.tftp_rows.specs.Verdicts.{between_line, verdict_line}
use Rattle.tftp_rows.proofs.VerdictLines.{IsLine, IsPlain, accepted, add, decimals, literal, refused}

role_names : (role : End) → IsPlain (role_name role)
role_names Client = literal (role_name Client) refl
role_names Server = literal (role_name Server) refl

between_lines : (r : TapRefusal) → IsLine (between_line r)
between_lines (Unlawful number rule stands) = refused (refusal.Unlawful number rule)
between_lines (Aborted by code) = record {
  words = codes "aborted by " ++ role_name by ++ codes " code " ++ decimal code;
  line = search rules;
  is_plain = add (add (add (literal (codes "aborted by ") refl) (role_names by)) (literal (codes " code ") refl)) (decimals code);
}
between_lines (Incomplete count) = refused (refusal.Incomplete count)
between_lines NormalTooLong = refused refusal.NormalTooLong
between_lines (Memory count) = refused (refusal.Memory count)

pub found_lines : (found : Found) → IsLine (verdict_line found)
found_lines (AtEnd (Ok m)) = accepted m
found_lines (AtEnd (Err r)) = refused r
found_lines (Between (Ok m)) = accepted m
found_lines (Between (Err r)) = between_lines r
