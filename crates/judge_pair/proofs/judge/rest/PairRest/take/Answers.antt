use Rattle.std.proofs.Common.{◌∷◌, ap, sym, subst, ◌∙◌}
use Rattle.judge_pair.specs.Judge.Rest.{Rest}
use Rattle.judge_pair.specs.Judge.{IsRestAfter}
use Rattle.judge_pair.proofs.JudgeLemmas.Sides.{on_ok, on_err}
use Rattle.judge_pair.proofs.JudgeLemmas.Rests.{with_client, with_server}
use Rattle.judge_pair.proofs.judge.rest.PairRest.take.Goals as goal

pub returns-in-Client-clause-client : goal.returns-in-Client-clause-client
returns-in-Client-clause-client g c = λ is h k client server d after taken.
    let rest = subst (λ (r : Rest). IsRestAfter r h client k server) (sym c.self.view_is) after in
    on_ok c.feed.result _ _ (λ left. with_client _ h k client server rest c.feed.new.self (d ∷ client) left)
    (c.feed.ensures.accepts rest.held rest.but.part rest.early h client d rest.client_left taken)

pub returns-in-Client-clause-stays : goal.returns-in-Client-clause-stays
returns-in-Client-clause-stays g c = λ h k client server after.
    let rest = subst (λ (r : Rest). IsRestAfter r h client k server) (sym c.self.view_is) after in
    on_err c.feed.result _ _ (λ refusal left. with_client _ h k client server rest c.feed.new.self client left)
    (c.feed.ensures.stays rest.held rest.but.part rest.early h client rest.client_left)

pub returns-in-Server-clause-server : goal.returns-in-Server-clause-server
returns-in-Server-clause-server g c = λ is h k client server d after taken.
    let rest = subst (λ (r : Rest). IsRestAfter r h client k server) (sym c.self.view_is) after in
    on_ok c.feed-in-Server.result _ _ (λ left. with_server _ h k client server rest c.feed-in-Server.new.self (d ∷ server) left)
    (c.feed-in-Server.ensures.accepts rest.other_held rest.but.other_part rest.other_early k server d rest.server_left taken)

pub returns-in-Server-clause-stays : goal.returns-in-Server-clause-stays
returns-in-Server-clause-stays g c = λ h k client server after.
    let rest = subst (λ (r : Rest). IsRestAfter r h client k server) (sym c.self.view_is) after in
    on_err c.feed-in-Server.result _ _ (λ refusal left. with_server _ h k client server rest c.feed-in-Server.new.self server left)
    (c.feed-in-Server.ensures.stays rest.other_held rest.but.other_part rest.other_early k server rest.server_left)

pub returns-in-Client-clause-refuses_client : goal.returns-in-Client-clause-refuses_client
returns-in-Client-clause-refuses_client g c = λ is h k client server d after taken none.
    let rest = subst (λ (r : Rest). IsRestAfter r h client k server) (sym c.self.view_is) after in
    c.feed.ensures.refuses rest.held rest.but.part rest.early h client d rest.client_left taken (ap (λ (r : Rest). r.client.side.judge.refused) c.self.view_is ∙ none)

pub returns-in-Server-clause-refuses_server : goal.returns-in-Server-clause-refuses_server
returns-in-Server-clause-refuses_server g c = λ is h k client server d after taken none.
    let rest = subst (λ (r : Rest). IsRestAfter r h client k server) (sym c.self.view_is) after in
    c.feed-in-Server.ensures.refuses rest.other_held rest.but.other_part rest.other_early k server d rest.server_left taken (ap (λ (r : Rest). r.server.side.judge.refused) c.self.view_is ∙ none)
