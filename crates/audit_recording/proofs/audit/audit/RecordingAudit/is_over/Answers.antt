use Rattle.std.proofs.Common.{◌≡◌, ◌≢◌, ℕ, max, [], ap, sym, ◌∙◌, subst, MatchBool}
use Rattle.audit_views.specs.Parties.{host_name}
use Rattle.audit_flows.specs.Lines.{clock, line, live}
use Rattle.audit_flows.specs.Transfers.{placed}
use Rattle.audit_recording.specs.Audit.{AuditsAfter, RecordingAudit}
use Rattle.audit_recording.proofs.AuditLemmas.Clock.{clock_stays}
use Rattle.audit_recording.proofs.audit.audit.RecordingAudit.is_over.Goals as goal

pub returns : goal.returns
returns g c named out history passed after =
    let old : AuditsAfter (record { judge = c.self.inside.judge; last_time = c.self.inside.last_time }) named out history passed =
    subst (λ (a : RecordingAudit). AuditsAfter a named out history passed) (sym c.self.view_is) after in
    let now = ap (λ (t : ℕ). max t (clock (placed named passed))) old.time ∙ clock_stays named passed in
    let client = line c.args.client.now (placed named passed) in
    subst (λ (t : ℕ). MatchBool c.is_over.result (live t client ≡ []) (live t client ≢ [])) now (c.is_over.ensures named host_name out passed old.judges)
