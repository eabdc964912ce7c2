use Rattle.std.proofs.Common.{refl}
use Rattle.tftp_rows.proofs.TextsLemmas.{text_stops}
use Rattle.tftp_rows.proofs.texts.text_of_recording.Goals as goal

pub returns-in_err-session : goal.returns-in_err-session
returns-in_err-session g c fresh =
    let file = g.R.Read.remaining c.args.reader in
    text_stops g.W.Write.contents g.E.Write.contents c.args.of.now c.args.remarks.now c.args.remarks.now c.args.writer.now c.args.writer.now file c.args.number c.from_residual.result _ c.from_residual.ensures.1
    (refl, refl, c.in_err-session.ensures.why file)
