use Rattle.std.proofs.Common.{sym, subst}
use Rattle.judge_tap.specs.{IsTapTransfer, TapTransfer, IsTapVerdict}
use Rattle.law_tap.specs.{transfer_between}
use Rattle.judge_tap.proofs.TapVerdictFound.{said_found}
use Rattle.judge_tap.proofs.transfer.TapTransfer.finish.Goals as goal

pub returns : goal.returns
returns g c = λ s earlier apart passes is counts.
    let was = subst (λ (t : TapTransfer). IsTapTransfer t s (transfer_between s earlier)) (sym c.self.view_is) is in
    subst (IsTapVerdict s earlier) (sym c.said_of.ensures)
    (said_found s apart earlier passes c.self.inside.asked was.asked c.self.inside.first_error was.first_error c.args.count counts c.finish.result (c.finish.ensures s c.self.inside.asked.side (transfer_between s earlier) was.receiving))
