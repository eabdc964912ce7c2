use Rattle.std.proofs.Common.{refl}
use Rattle.tftp_rows.proofs.EachTextLemmas.{texts_stop}
use Rattle.tftp_rows.proofs.texts.texts_of_recording.Goals as goal

pub returns-in_err-session : goal.returns-in_err-session
returns-in_err-session g c fresh =
    let file = g.R.Read.remaining c.args.reader in
    texts_stop g.W.Write.contents g.E.Write.contents c.args.of.now c.args.remarks.now c.args.remarks.now c.args.writer.now c.args.writer.now file c.from_residual.result _ c.from_residual.ensures.1
    (refl, refl, c.in_err-session.ensures.why file)
