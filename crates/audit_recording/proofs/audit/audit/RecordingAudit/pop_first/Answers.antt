use Rattle.std.proofs.Common.{◌≡◌, IfSome, Some, sym, subst}
use Rattle.audit_flows.specs.Transfers.{placed}
use Rattle.audit_views.specs.Parties.{host_name}
use Rattle.audit_recording.specs.Audit.{AuditsAfter, RecordingAudit}
use Rattle.audit_recording.specs.Judges.{IsWatching, Watched, opened}
use Rattle.audit_recording.proofs.AuditLemmas.Taking.{if_some}
use Rattle.audit_recording.proofs.audit.audit.RecordingAudit.pop_first.Goals as goal

pub returns-clause-all : goal.returns-clause-all
returns-clause-all g c named out history passed after none =
    let old : AuditsAfter (record { judge = c.self.inside.judge; last_time = c.self.inside.last_time }) named out history passed =
    subst (λ (a : RecordingAudit). AuditsAfter a named out history passed) (sym c.self.view_is) after in
    c.pop_first.ensures.all named host_name out passed old.judges none

pub returns-clause-watched : goal.returns-clause-watched
returns-clause-watched g c named out history passed after =
    let old : AuditsAfter (record { judge = c.self.inside.judge; last_time = c.self.inside.last_time }) named out history passed =
    subst (λ (a : RecordingAudit). AuditsAfter a named out history passed) (sym c.self.view_is) after in
    subst (λ (a : RecordingAudit). IfSome c.pop_first.result (λ (w : Watched). (opened w.transfer.number (placed named passed) ≡ Some w.transfer) × IsWatching w a.judge.judging w.transfer host_name (placed named passed)))
    c.self.view_is (c.pop_first.ensures.watched named host_name out passed old.judges)

pub returns-clause-stands : goal.returns-clause-stands
returns-clause-stands g c named out history passed after =
    let old : AuditsAfter (record { judge = c.self.inside.judge; last_time = c.self.inside.last_time }) named out history passed =
    subst (λ (a : RecordingAudit). AuditsAfter a named out history passed) (sym c.self.view_is) after in
    if_some _ _ c.pop_first.result (λ w judges. record { frames = old.frames; judges = judges; time = old.time; sound = old.sound })
    (c.pop_first.ensures.stands named host_name out passed old.judges)

pub returns-clause-first : goal.returns-clause-first
returns-clause-first g c named out history passed n after =
    let old : AuditsAfter (record { judge = c.self.inside.judge; last_time = c.self.inside.last_time }) named out history passed =
    subst (λ (a : RecordingAudit). AuditsAfter a named out history passed) (sym c.self.view_is) after in
    c.pop_first.ensures.first named host_name out passed n old.judges

pub returns-clause-once : goal.returns-clause-once
returns-clause-once g c named out history passed after =
    let old : AuditsAfter (record { judge = c.self.inside.judge; last_time = c.self.inside.last_time }) named out history passed =
    subst (λ (a : RecordingAudit). AuditsAfter a named out history passed) (sym c.self.view_is) after in
    c.pop_first.ensures.once named host_name out passed old.judges
