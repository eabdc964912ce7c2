use Rattle.std.proofs.Common.{refl, sym, subst, ap, ◌∙◌, is_some}
use Rattle.judge_pair.specs.Judge.{IsLeftAfter, Left}
use Rattle.judge_pair.proofs.JudgeLemmas.Rests.{left_on}
use Rattle.judge_pair.proofs.judge.rest.Left.feed.Goals as goal

pub returns-clause-accepts : goal.returns-clause-accepts
returns-clause-accepts g c = λ held part early h read d after taken.
    let was = subst (λ (l : Left). IsLeftAfter l held part early h read) (sym c.self.view_is) after in
    let told = c.in_ok-feed.ensures.accepts h read d was.side taken in
    left_on _ _ held part early h read d was told.1 refl c.feed.ensures.held (ap (λ (l : Left). is_some l.side.held) c.self.view_is ∙ c.requires.waited)
