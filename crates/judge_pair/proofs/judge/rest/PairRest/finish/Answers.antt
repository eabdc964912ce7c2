use Rattle.std.proofs.Common.{◌≡◌, ap, sym, subst, ◌∙◌}
use Rattle.tftp_judge.specs.{IsJudgeAfter, Judge}
use Rattle.judge_pair.specs.Judge.{IsSideAfter, Side, Left}
use Rattle.judge_pair.specs.Judge.Rest.{Rest}
use Rattle.judge_pair.proofs.JudgeLemmas.Verdicts.{IsAnswered, carried_is, counts_are, rest_is_verdict, same_numbers, why_left}
use Rattle.judge_pair.proofs.judge.rest.PairRest.finish.Goals as goal

pub returns-clause-numbers : goal.returns-clause-numbers
returns-clause-numbers g c = λ client server client_read server_read after is other_is part other_part.
    same_numbers client server c.args.self _ _ _ _ (rest_is_verdict client server c.args.self client_read server_read after is other_is part other_part)
    (c.fed-client_lawful.ensures ∙ ap (λ (l : Left). l.side.judge.fed) c.client.view_is ∙ ap (λ (r : Rest). r.client.side.judge.fed) c.self.view_is)
    (c.fed-server_lawful.ensures ∙ ap (λ (l : Left). l.side.judge.fed) c.server.view_is ∙ ap (λ (r : Rest). r.server.side.judge.fed) c.self.view_is)
    (ap (λ (l : Left). l.merged) c.client.view_is ∙ ap (λ (r : Rest). r.client.merged) c.self.view_is)
    (ap (λ (l : Left). l.merged) c.server.view_is ∙ ap (λ (r : Rest). r.server.merged) c.self.view_is)

pub returns-clause-client_joins : goal.returns-clause-client_joins
returns-clause-client_joins g c = λ h k client server count after none.
    let same = ap (λ (l : Left). l.side.judge) c.client.view_is ∙ ap (λ (r : Rest). r.client.side.judge) c.self.view_is in
    c.finish.ensures.joins h client count (subst (λ (j : Judge). IsJudgeAfter j h client) (sym (c.into_parts-client_judge.ensures.judge ∙ same)) (after.client_left.side.goes_on none))

pub returns-clause-server_joins : goal.returns-clause-server_joins
returns-clause-server_joins g c = λ h k client server count after none.
    let same = ap (λ (l : Left). l.side.judge) c.server.view_is ∙ ap (λ (r : Rest). r.server.side.judge) c.self.view_is in
    c.finish-2.ensures.joins k server count (subst (λ (j : Judge). IsJudgeAfter j k server) (sym (c.into_parts-server_judge.ensures.judge ∙ same)) (after.server_left.side.goes_on none))

pub returns-clause-client_why : goal.returns-clause-client_why
returns-clause-client_why g c = λ client server client_read server_read after is other_is.
    let r = c.args.self in
    why_left client server r.client r.server after.held after.other_held after.but.part after.early client_read after.but.other_part after.other_early server_read c.why-client_why.result _ _ _
    after.client_left after.server_left after.but.is is other_is (subst (λ (r : Rest). IsAnswered r.client.side r.server.side c.why-client_why.result) c.self.view_is c.why-client_why.ensures)
    (c.fed-client_lawful.ensures ∙ ap (λ (l : Left). l.side.judge.fed) c.client.view_is ∙ ap (λ (r : Rest). r.client.side.judge.fed) c.self.view_is)
    (ap (λ (l : Left). l.merged) c.client.view_is ∙ ap (λ (r : Rest). r.client.merged) c.self.view_is)
    (c.fed-server_lawful.ensures ∙ ap (λ (l : Left). l.side.judge.fed) c.server.view_is ∙ ap (λ (r : Rest). r.server.side.judge.fed) c.self.view_is)

pub returns-clause-server_why : goal.returns-clause-server_why
returns-clause-server_why g c = λ client server client_read server_read after is other_is.
    let r = c.args.self in
    why_left server client r.server r.client after.other_held after.held after.but.other_part after.other_early server_read after.but.part after.early client_read c.why-server_why.result _ _ _
    after.server_left after.client_left after.but.other_is other_is is (subst (λ (r : Rest). IsAnswered r.server.side r.client.side c.why-server_why.result) c.self.view_is c.why-server_why.ensures)
    (c.fed-server_lawful.ensures ∙ ap (λ (l : Left). l.side.judge.fed) c.server.view_is ∙ ap (λ (r : Rest). r.server.side.judge.fed) c.self.view_is)
    (ap (λ (l : Left). l.merged) c.server.view_is ∙ ap (λ (r : Rest). r.server.merged) c.self.view_is)
    (c.fed-client_lawful.ensures ∙ ap (λ (l : Left). l.side.judge.fed) c.client.view_is ∙ ap (λ (r : Rest). r.client.side.judge.fed) c.self.view_is)

pub returns-clause-carried : goal.returns-clause-carried
returns-clause-carried g c = λ client server client_read server_read after is other_is.
    let mine : c.client.inside.side ≡ c.args.self.client.side = ap (λ (l : Left). l.side) c.client.view_is ∙ ap (λ (r : Rest). r.client.side) c.self.view_is in
    let theirs : c.server.inside.side ≡ c.args.self.server.side = ap (λ (l : Left). l.side) c.server.view_is ∙ ap (λ (r : Rest). r.server.side) c.self.view_is in
    carried_is client server c.client.inside.side c.server.inside.side client_read server_read
    (subst (λ (s : Side). IsSideAfter s client.header client_read) (sym mine) after.client_left.side)
    (subst (λ (s : Side). IsSideAfter s server.header server_read) (sym theirs) after.server_left.side) is other_is _ _ c.fed-client_lawful.ensures c.fed-server_lawful.ensures
    _ _ (c.into_parts-client_judge.ensures.counts) (c.into_parts-server_judge.ensures.counts)
    c.carried-carried.result c.carried-carried.ensures.none c.carried-carried.ensures.lost c.carried-carried.ensures.repeated

pub returns-clause-client_counted : goal.returns-clause-client_counted
returns-clause-client_counted g c = λ client server client_read server_read after of.
    let same : c.client.inside.side ≡ c.args.self.client.side = ap (λ (l : Left). l.side) c.client.view_is ∙ ap (λ (r : Rest). r.client.side) c.self.view_is in
    counts_are client c.client.inside.side client_read (subst (λ (s : Side). IsSideAfter s client.header client_read) (sym same) after.client_left.side) of _ c.fed-client_lawful.ensures
    _ c.into_parts-client_judge.ensures.counts

pub returns-clause-server_counted : goal.returns-clause-server_counted
returns-clause-server_counted g c = λ client server client_read server_read after of.
    let same : c.server.inside.side ≡ c.args.self.server.side = ap (λ (l : Left). l.side) c.server.view_is ∙ ap (λ (r : Rest). r.server.side) c.self.view_is in
    counts_are server c.server.inside.side server_read (subst (λ (s : Side). IsSideAfter s server.header server_read) (sym same) after.server_left.side) of _ c.fed-server_lawful.ensures
    _ c.into_parts-server_judge.ensures.counts
