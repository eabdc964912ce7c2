use Rattle.std.proofs.Common.{◌⊎◌, Err, reverse, ap, ◌∙◌, sym, subst}
use Rattle.law_end.specs.{IsEnded}
use Rattle.law_model.specs.Rules.{transfer_of}
use Rattle.tftp_judge.specs.{IsVerdict, TakesForJoin}
use Rattle.audit_views.specs.Views.{HasJudged, HasJudgedBy, IsRefusedIn, OneEnd}
use Rattle.tftp_judge.specs.declared.refusal.Refusal.TheVariants.{Memory}
use Rattle.audit_views.proofs.ViewsLemmas.Judging.{finished, holds_of, judged_with, said_by, stands_for, wanting}
use Rattle.audit_views.proofs.views.end_judge.EndJudge.finish.Goals as goal

pub returns-clause-judged : goal.returns-clause-judged
returns-clause-judged g c rollover h given judged =
    let j = c.self.inside.judge in
    judged_with rollover h given c.finish.result (λ of. said_by rollover c.finish.result h given
    (holds_of rollover (HasJudged j) (λ k taken. IsVerdict k (reverse taken) c.finish.result) h given
    (λ k taken is. finished k taken j c.finish.result (c.finish.ensures.verdict k taken) c.finish.ensures.for_good is of)
    (subst (λ (e : OneEnd). HasJudgedBy rollover e.judge h given) (sym c.self.view_is) judged)))
    (λ count none. holds_of rollover (HasJudged j) (λ k taken. IsRefusedIn k taken (Memory count) ⊎ IsVerdict k (reverse taken) (Err (Memory count))) h given
    (λ k taken has. wanting k taken count j c.finish.result (c.finish.ensures.verdict k taken) c.finish.ensures.for_good has none)
    (subst (λ (e : OneEnd). HasJudgedBy rollover e.judge h given) (sym c.self.view_is) judged))

pub returns-clause-memory : goal.returns-clause-memory
returns-clause-memory g c rollover h given count judged none is =
    let j = c.self.inside.judge in
    holds_of rollover (HasJudged j) (λ k taken. IsEnded k taken × TakesForJoin g.D.Delivered.join_takes (transfer_of k taken)) h given
    (λ k taken has.
    let after = stands_for j k taken (ap (λ (e : OneEnd). e.judge.refused) c.self.view_is ∙ none) has in
    (c.finish.ensures.memory k taken count after is, c.finish.ensures.joins k taken count after is))
    (subst (λ (e : OneEnd). HasJudgedBy rollover e.judge h given) (sym c.self.view_is) judged)
