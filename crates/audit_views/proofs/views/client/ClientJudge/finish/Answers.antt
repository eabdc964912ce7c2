use Rattle.std.proofs.Common.{None, ap, ◌∙◌, sym, subst}
use Rattle.audit_views.specs.Views.{client_capture, client_header, HasJudgedBy, Client}
use Rattle.audit_views.proofs.views.client.ClientJudge.finish.Goals as goal

pub returns-clause-memory : goal.returns-clause-memory
returns-clause-memory g c rollover name placed count after none is =
    let x = c.args.self.transfer in
    c.finish.ensures.memory rollover (client_header x) (client_capture name x placed) count
    (subst (λ (k : Client). HasJudgedBy rollover k.end.judge (client_header x) (client_capture name x placed)) (sym c.self.view_is) after)
    (ap (λ (k : Client). k.end.judge.refused) c.self.view_is ∙ none) is

pub returns-clause-by_rollover : goal.returns-clause-by_rollover
returns-clause-by_rollover g c rollover name placed after =
    let x = c.args.self.transfer in
    c.finish.ensures.judged rollover (client_header x) (client_capture name x placed)
    (subst (λ (k : Client). HasJudgedBy rollover k.end.judge (client_header x) (client_capture name x placed)) (sym c.self.view_is) after)

pub returns-clause-judged : goal.returns-clause-judged
returns-clause-judged g c = returns-clause-by_rollover g c None
