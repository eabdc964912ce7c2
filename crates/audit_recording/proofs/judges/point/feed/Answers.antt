use Rattle.std.proofs.Common.{Some, subst, ◌∙◌}
use Rattle.audit_flows.proofs.TransfersLemmas.AllLines.{on_ok_map}
use Rattle.audit_recording.specs.Judges.Kept.{StandsAs}
use Rattle.audit_recording.proofs.judges.point.feed.Goals as goal

pub returns-in-Some-clause-stands : goal.returns-in-Some-clause-stands
returns-in-Some-clause-stands g c rollover x name p older stands fed =
    let old : StandsAs g.J.PointJudge.judged (g.J.PointJudge.stands rollover) (Some c.in-Some.judge) x name older = subst (λ o. StandsAs g.J.PointJudge.judged (g.J.PointJudge.stands rollover) o x name older) c.in-Some.is stands in
    on_ok_map c.take.result (λ after. (c.take.ensures.judged ∙ old.0, after)) (c.take.ensures.stands rollover name p older old.1 fed)
