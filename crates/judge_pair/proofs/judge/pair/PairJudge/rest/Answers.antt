use Rattle.std.proofs.Common.{sym, subst}
use Rattle.judge_pair.specs.Judge.{IsPairAfter, Pair, IsLeftAfter, Left}
use Rattle.judge_pair.proofs.JudgeLemmas.Rests.{left_begins, rest_begins}
use Rattle.judge_pair.proofs.judge.pair.PairJudge.rest.Goals as goal

pub returns-clause-after : goal.returns-clause-after
returns-clause-after g c = λ h k client server after.
    let pair = subst (λ (p : Pair). IsPairAfter p h client k server) (sym c.self.view_is) after in
    rest_begins _ c.of.result h k client server pair
    (λ part is. subst (λ (l : Left). IsLeftAfter l c.self.inside.client.held part client h client) (sym c.of.ensures.0)
    (left_begins c.self.inside.client c.begin.result h part client pair.own_side is c.begin.ensures.side c.begin.ensures.merged))
    (λ part is. subst (λ (l : Left). IsLeftAfter l c.self.inside.server.held part server k server) (sym c.of.ensures.1)
    (left_begins c.self.inside.server c.begin-2.result k part server pair.other_side is c.begin-2.ensures.side c.begin-2.ensures.merged))
