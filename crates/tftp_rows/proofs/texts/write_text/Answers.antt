use Rattle.std.proofs.Common.{ℕ, List, Option, subst}
use Rattle.tftp_rows.specs.Texts.{IsTextStopped, IsTextWritten}
use Rattle.tftp_rows.proofs.TextsLemmas.{file_text_stops}
use Rattle.tftp_rows.proofs.texts.write_text.Goals as goal

pub returns-in_err-text_of_recording : goal.returns-in_err-text_of_recording
returns-in_err-text_of_recording g c fresh =
    file_text_stops g.W.Write.contents g.E.Write.contents c.args.of.now c.args.remarks.now c.text_of_recording.new.remarks c.args.writer.now c.text_of_recording.new.writer _ c.args.number g.O.Fault.From.from_gives _ c.from_residual-in_err-text_of_recording.result _
    c.from_residual-in_err-text_of_recording.ensures.1
    (subst (λ (f : Option (List ℕ)). IsTextStopped g.W.Write.contents g.E.Write.contents c.args.of.now c.args.remarks.now c.text_of_recording.new.remarks c.args.writer.now c.text_of_recording.new.writer f c.args.number c.in_err-text_of_recording.field-0.0) c.in_ok-file.ensures.holds (c.in_err-text_of_recording.ensures fresh))

pub returns : goal.returns
returns g c fresh =
    subst (λ (f : Option (List ℕ)). IsTextWritten g.W.Write.contents g.E.Write.contents c.args.of.now c.args.remarks.now c.text_of_recording.new.remarks c.args.writer.now c.text_of_recording.new.writer f c.args.number) c.in_ok-file.ensures.holds (c.in_ok-text_of_recording.ensures fresh)
