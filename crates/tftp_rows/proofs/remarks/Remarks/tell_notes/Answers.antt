use Rattle.std.proofs.Common.{◌∙◌, ap, map, string_bytes, subst}
use Rattle.std.specs.Io.KnownBytes.{Appends}
use Rattle.tftp_rows.specs.Remarks.{remarks_text}
use Rattle.tftp_rows.proofs.RemarksLemmas.{says_err, says_nothing, says_short}
use Rattle.tftp_rows.proofs.remarks.Remarks.tell_notes.Goals as goal

pub returns-in_err-lines-clause-notes : goal.returns-in_err-lines-clause-notes
returns-in_err-lines-clause-notes g c s noted = says_err _ _ c.from_residual.result _ c.from_residual.ensures.0 (says_nothing (g.E.Write.contents c.args.self.now.errors.0) _)

pub returns-in_err-text-clause-notes : goal.returns-in_err-text-clause-notes
returns-in_err-text-clause-notes g c s noted = says_err _ _ c.from_residual-in_err-text.result _ c.from_residual-in_err-text.ensures.0 (says_nothing (g.E.Write.contents c.args.self.now.errors.0) _)

pub returns-in_err-write_whole-clause-notes : goal.returns-in_err-write_whole-clause-notes
returns-in_err-write_whole-clause-notes g c s noted =
    let text = remarks_text c.args.self.now.program.now c.args.file.now in
    says_err _ _ c.from_residual-in_err-write_whole.result _ c.from_residual-in_err-write_whole.ensures.0
    (says_short _ _ c.as_bytes.result.now _ (c.as_bytes.ensures.value ∙ (c.in_ok-text.ensures ∙ (ap (λ lines. text (map string_bytes lines)) c.as_slice.ensures.value ∙ ap text (c.in_ok-lines.ensures s noted)))) c.in_err-write_whole.ensures.writes)

pub returns-clause-notes : goal.returns-clause-notes
returns-clause-notes g c s noted =
    let text = remarks_text c.args.self.now.program.now c.args.file.now in
    subst (Appends (g.E.Write.contents c.args.self.now.errors.0) (g.E.Write.contents c.write_whole.new.self.0))
    (c.as_bytes.ensures.value ∙ (c.in_ok-text.ensures ∙ (ap (λ lines. text (map string_bytes lines)) c.as_slice.ensures.value ∙ ap text (c.in_ok-lines.ensures s noted)))) c.in_ok-write_whole.ensures.writes
