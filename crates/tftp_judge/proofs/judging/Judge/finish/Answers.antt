use Rattle.std.proofs.Common.{sym, ap, ◌∙◌}
use Rattle.law_end.specs.{IsEnded}
use Rattle.law_model.specs.Rules.{transfer_of}
use Rattle.tftp_judge.specs.{Judge, TakesForJoin}
use Rattle.tftp_judge.proofs.EndedJudge.{of_transfer, said_of_transfer, said_of_nothing}
use Rattle.tftp_judge.proofs.judging.Judge.finish.Goals as goal

pub returns-in-Some-into_transfer-clause-verdict : goal.returns-in-Some-into_transfer-clause-verdict
returns-in-Some-into_transfer-clause-verdict g c h earlier after =
    said_of_transfer c.args.self h earlier after c.in-Some-into_transfer.transfer c.finish.result
    (sym (ap (λ (j : Judge). j.state.transfer) c.self.view_is) ∙ sym c.into_transfer.ensures ∙ c.in-Some-into_transfer.is)
    (λ lawful first kept. c.finish.ensures.verdict h earlier lawful first kept (ap (λ (j : Judge). j.fed) c.self.view_is ∙ after.fed))

pub returns-in-Some-into_transfer-clause-memory : goal.returns-in-Some-into_transfer-clause-memory
returns-in-Some-into_transfer-clause-memory g c h earlier count after is =
    of_transfer c.args.self h earlier after (IsEnded h earlier) c.in-Some-into_transfer.transfer
    (sym (ap (λ (j : Judge). j.state.transfer) c.self.view_is) ∙ sym c.into_transfer.ensures ∙ c.in-Some-into_transfer.is)
    (λ lawful first kept. c.finish.ensures.memory h earlier lawful first kept count is)

pub returns-in-Some-into_transfer-clause-joins : goal.returns-in-Some-into_transfer-clause-joins
returns-in-Some-into_transfer-clause-joins g c h earlier count after is =
    of_transfer c.args.self h earlier after (TakesForJoin g.D.Delivered.join_takes (transfer_of h earlier)) c.in-Some-into_transfer.transfer
    (sym (ap (λ (j : Judge). j.state.transfer) c.self.view_is) ∙ sym c.into_transfer.ensures ∙ c.in-Some-into_transfer.is)
    (λ lawful first kept. c.finish.ensures.joins h earlier kept count is)

pub returns-in-None-clause-verdict : goal.returns-in-None-clause-verdict
returns-in-None-clause-verdict g c h earlier after =
    said_of_nothing c.args.self h earlier after c.self.inside.fed (sym (ap (λ (j : Judge). j.state.transfer) c.self.view_is) ∙ sym c.into_transfer.ensures ∙ c.in-None.is)
    (ap (λ (j : Judge). j.fed) c.self.view_is)
