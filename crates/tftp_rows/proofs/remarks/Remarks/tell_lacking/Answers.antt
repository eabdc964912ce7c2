use Rattle.std.proofs.Common.{◌∙◌, subst}
use Rattle.std.specs.Io.KnownBytes.{Appends}
use Rattle.tftp_rows.proofs.RemarksLemmas.{says_err, says_nothing, says_short}
use Rattle.tftp_rows.proofs.remarks.Remarks.tell_lacking.Goals as goal

pub returns-in_err-text-clause-line : goal.returns-in_err-text-clause-line
returns-in_err-text-clause-line g c = says_err _ _ c.from_residual.result _ c.from_residual.ensures.0 (says_nothing (g.E.Write.contents c.args.self.now.errors.0) _)

pub returns-in_err-write_whole-clause-line : goal.returns-in_err-write_whole-clause-line
returns-in_err-write_whole-clause-line g c =
    says_err _ _ c.from_residual-in_err-write_whole.result _ c.from_residual-in_err-write_whole.ensures.0
    (says_short _ _ c.as_bytes.result.now _ (c.as_bytes.ensures.value ∙ c.in_ok-text.ensures) c.in_err-write_whole.ensures.writes)

pub returns-clause-line : goal.returns-clause-line
returns-clause-line g c =
    subst (Appends (g.E.Write.contents c.args.self.now.errors.0) (g.E.Write.contents c.write_whole.new.self.0)) (c.as_bytes.ensures.value ∙ c.in_ok-text.ensures) c.in_ok-write_whole.ensures.writes
