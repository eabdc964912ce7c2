use Rattle.std.proofs.Common.{inr, refl}
use Rattle.std.proofs.lemmas.Result.{IfOk-weaker}
use Rattle.tftp_rows.specs.Asked.{AreAskedBy}
use Rattle.tftp_rows.proofs.asked.AskedWords.of.Goals as goal

pub returns-in-None : goal.returns-in-None
returns-in-None c = IfOk-weaker c.unread.result _ (λ words. AreAskedBy words c.args.payload.now) (λ words unread. inr (c.in-None.ensures.none refl, unread)) c.unread.ensures
