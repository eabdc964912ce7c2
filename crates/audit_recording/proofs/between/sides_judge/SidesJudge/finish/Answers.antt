use Rattle.std.proofs.Common.{◌≡◌, Option, Some, sym, subst, ap, ◌∙◌}
use Rattle.judge_tap.specs.{TapJudge}
use Rattle.audit_recording.specs.Between.Judged.{HasTappedBy}
use Rattle.audit_recording.specs.Between.Kept.{Between, PassedBy}
use Rattle.audit_recording.proofs.BetweenLemmas.Tapping.{finished_by}
use Rattle.audit_recording.proofs.between.sides_judge.SidesJudge.finish.Goals as goal

pub returns-in-Some-clause-judged : goal.returns-in-Some-clause-judged
returns-in-Some-clause-judged g c = λ given passed apart.
    let b = c.args.self in
    let there : b.judge ≡ Some c.in-Some.judge = sym (ap (λ (x : Between). x.judge) c.self.view_is) ∙ c.in-Some.is in
    let tapped : HasTappedBy b.sides.rollover c.in-Some.judge b.sides given = subst (λ (o : Option TapJudge). PassedBy o b given) there passed in
    finished_by b.sides.rollover b.sides given c.in-Some.judge c.finish.result c.finish.ensures.verdict c.finish.ensures.for_good tapped
