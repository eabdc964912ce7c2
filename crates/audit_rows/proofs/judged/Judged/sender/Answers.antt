use Rattle.std.proofs.Common.{sym, ap, ◌∙◌}
use Rattle.audit_flows.specs.{Transfer}
use Rattle.audit_recording.specs.Blame.Frames.{whole_of}
use Rattle.audit_recording.specs.Rows.Accusing.{role_at}
use Rattle.audit_rows.proofs.judged.Judged.sender.Goals as goal

pub returns : goal.returns
returns c judging x named carried is =
    c.role_at.ensures (whole_of named carried) is.trail.ends (is.trail.number ∙ ap (λ (y : Transfer). y.number) (sym is.trail.transfer))
    ∙ ap (λ (y : Transfer). role_at y (whole_of named carried) c.args.blamed.now.source) is.trail.transfer
