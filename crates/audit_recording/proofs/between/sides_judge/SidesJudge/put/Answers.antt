use Rattle.std.proofs.Common.{◌≡◌, ◌∷◌, Some, sym, ap, ◌∙◌, subst, Option}
use Rattle.law_tap.specs.{TapSides}
use Rattle.judge_tap.specs.{TapJudge}
use Rattle.audit_recording.specs.Between.{HasTappedBy, Between, HasPassed, PassedBy, passed_as}
use Rattle.audit_recording.specs.declared.between.sides_judge.SidesJudge.TheInside.{Inside}
use Rattle.audit_views.specs.Views.{held_of}
use Rattle.audit_recording.proofs.BetweenLemmas.Tapping.{rests_more_by}
use Rattle.audit_recording.proofs.between.sides_judge.SidesJudge.put.Goals as goal

pub returns-in-Some-refused-clause-passed : goal.returns-in-Some-refused-clause-passed
returns-in-Some-refused-clause-passed g c given passed =
    let b : Between = record { sides = c.self.inside.sides; judge = c.self.inside.judge; counted = c.self.inside.counted } in
    let there : b.judge ≡ Some c.in-Some.judge = sym (ap (λ (i : Inside g.row.D.Denot). i.judge) c.self-inside.view_is) ∙ c.in-Some.is in
    let tapped : HasTappedBy b.sides.rollover c.in-Some.judge b.sides given =
    subst (λ (o : Option TapJudge). PassedBy o b given) there (subst (λ (b : Between). HasPassed b given) (sym c.self.view_is) passed) in
    let d = passed_as (held_of c.args.fed.now) in
    subst (λ (s : TapSides). HasTappedBy s.rollover c.in-Some.judge s (d ∷ given)) (sym (ap (λ (i : Inside g.row.D.Denot). i.sides) c.self-inside.view_is))
    (rests_more_by b.sides.rollover c.in-Some.judge b.sides given d c.in-Some-refused.field-0 (sym c.refused.ensures ∙ c.in-Some-refused.is) tapped)
