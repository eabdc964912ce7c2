use Rattle.std.proofs.Common.{IfSome, Option, sym, subst}
use Rattle.audit_recording.specs.Between.{Between, IsJudgedIfApart, View}
use Rattle.audit_recording.proofs.between.between_view.BetweenView.refused.Goals as goal

pub returns-in-Some-clause-apart : goal.returns-in-Some-clause-apart
returns-in-Some-clause-apart g c =
    subst (λ (v : View). IfSome v.judge IsJudgedIfApart) c.self.view_is
    (subst (λ (o : Option Between). IfSome o IsJudgedIfApart) (sym c.in-Some.is) c.refused.ensures.apart)

pub returns-in-None-clause-apart : goal.returns-in-None-clause-apart
returns-in-None-clause-apart g c =
    subst (λ (v : View). IfSome v.judge IsJudgedIfApart) c.self.view_is
    (subst (λ (o : Option Between). IfSome o IsJudgedIfApart) (sym c.in-None.is) tt)
