use Rattle.std.proofs.Common.{ℕ, List, Option, subst}
use Rattle.tftp_rows.specs.Texts.{AreTextsStopped, AreTextsWritten}
use Rattle.tftp_rows.proofs.EachTextLemmas.{file_texts_stop}
use Rattle.tftp_rows.proofs.texts.write_texts.Goals as goal

pub returns-in_err-status : goal.returns-in_err-status
returns-in_err-status g c fresh =
    file_texts_stop g.W.Write.contents g.E.Write.contents c.args.of.now c.args.remarks.now c.texts_of_recording.new.remarks c.args.writer.now c.texts_of_recording.new.writer _ g.O.Fault.From.from_gives _ c.from_residual-in_err-status.result _
    c.from_residual-in_err-status.ensures.1
    (subst (λ (f : Option (List ℕ)). AreTextsStopped g.W.Write.contents g.E.Write.contents c.args.of.now c.args.remarks.now c.texts_of_recording.new.remarks c.args.writer.now c.texts_of_recording.new.writer f c.in_err-status.field-0.0) c.in_ok-file.ensures.holds (c.in_err-status.ensures fresh))

pub returns : goal.returns
returns g c fresh =
    subst (λ (f : Option (List ℕ)). AreTextsWritten g.W.Write.contents g.E.Write.contents c.args.of.now c.args.remarks.now c.texts_of_recording.new.remarks c.args.writer.now c.texts_of_recording.new.writer f c.in_ok-status.status) c.in_ok-file.ensures.holds (c.in_ok-status.ensures fresh)
