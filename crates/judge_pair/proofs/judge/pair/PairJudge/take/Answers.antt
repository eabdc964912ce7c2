use Rattle.std.proofs.Common.{◌∷◌, sym, subst, ap, ◌∙◌}
use Rattle.judge_pair.specs.Judge.{IsPairAfter, Pair}
use Rattle.judge_pair.proofs.JudgeLemmas.Sides.{on_ok, on_err, turned_sides}
use Rattle.judge_pair.proofs.judge.pair.PairJudge.take.Goals as goal

pub returns-in-Server-clause-server : goal.returns-in-Server-clause-server
returns-in-Server-clause-server g c = λ is h k client server d after taken.
    let sides = subst (λ (p : Pair). IsPairAfter p h client k server) (sym c.self.view_is) after in
    on_ok c.take-in-Server.result _ _ (λ both. (both.0, turned_sides c.take-in-Server.new.self c.take-in-Server.new.other k h (d ∷ server) client both.1))
    (c.take-in-Server.ensures.accepts k h server client d (turned_sides c.self.inside.client c.self.inside.server h k client server sides) taken)

pub returns-in-Server-clause-refuses_server : goal.returns-in-Server-clause-refuses_server
returns-in-Server-clause-refuses_server g c = λ is h k client server d after taken none.
    let sides = subst (λ (p : Pair). IsPairAfter p h client k server) (sym c.self.view_is) after in
    c.take-in-Server.ensures.refuses k h server client d (turned_sides c.self.inside.client c.self.inside.server h k client server sides) taken (ap (λ (p : Pair). p.server.judge.refused) c.self.view_is ∙ none)

pub returns-in-Server-clause-stays : goal.returns-in-Server-clause-stays
returns-in-Server-clause-stays g c = λ h k client server after.
    let sides = subst (λ (p : Pair). IsPairAfter p h client k server) (sym c.self.view_is) after in
    on_err c.take-in-Server.result _ _ (λ refusal still. turned_sides c.take-in-Server.new.self c.take-in-Server.new.other k h server client still)
    (c.take-in-Server.ensures.stays k h server client (turned_sides c.self.inside.client c.self.inside.server h k client server sides))
