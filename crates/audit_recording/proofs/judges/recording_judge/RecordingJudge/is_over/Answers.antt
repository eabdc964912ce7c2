use Rattle.std.proofs.Common.{sym, subst}
use Rattle.audit_flows.specs.Transfers.{placed}
use Rattle.audit_recording.specs.Judges.{RecordingJudge, StandsAfter}
use Rattle.audit_recording.proofs.judges.recording_judge.RecordingJudge.is_over.Goals as goal

pub returns : goal.returns
returns g c named name out recorded stands =
    let old : StandsAfter (record { attribution = c.self.inside.attribution; watched = c.self.inside.watched; failed = c.self.inside.failed; judging = c.self.inside.judging }) named name out recorded =
    subst (λ (j : RecordingJudge). StandsAfter j named name out recorded) (sym c.self.view_is) stands in
    c.is_over.ensures named (placed named recorded) old.attribution
