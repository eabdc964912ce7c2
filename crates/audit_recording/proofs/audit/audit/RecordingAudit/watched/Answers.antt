use Rattle.std.proofs.Common.{◌≡◌, ◌⊎◌, Bor, true, Some, None, MatchOption, sym, subst}
use Rattle.audit_flows.specs.Transfers.{placed}
use Rattle.audit_views.specs.Parties.{host_name}
use Rattle.audit_recording.specs.Audit.{AuditsAfter, RecordingAudit}
use Rattle.audit_recording.specs.Judges.{IsWatching, Watched, is_among, opened}
use Rattle.audit_recording.proofs.audit.audit.RecordingAudit.watched.Goals as goal

pub returns : goal.returns
returns g c named out history passed after =
    let old : AuditsAfter (record { judge = c.self.inside.judge; last_time = c.self.inside.last_time }) named out history passed =
    subst (λ (a : RecordingAudit). AuditsAfter a named out history passed) (sym c.self.view_is) after in
    subst (λ (a : RecordingAudit). MatchOption c.watched.result ((opened c.args.number (placed named passed) ≡ None) ⊎ (is_among c.args.number out ≡ true))
    (λ (w : Bor Watched). (opened c.args.number (placed named passed) ≡ Some w.now.transfer) × IsWatching w.now a.judge.judging w.now.transfer host_name (placed named passed)))
    c.self.view_is (c.watched.ensures named host_name out passed old.judges)
