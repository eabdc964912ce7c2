use Rattle.std.proofs.Common.{ap, not, refl, sym, ◌∙◌}
use Rattle.audit_flows.specs.{Transfer}
use Rattle.audit_recording.specs.Blame.Frames.{whole_of}
use Rattle.audit_rows.proofs.Sent.{by_row, listed, sent_from}
use Rattle.audit_rows.proofs.judged.Judged.accused.Goals as goal

pub returns-in-Some : goal.returns-in-Some
returns-in-Some c judging x named carried is =
    by_row x c.args.self.now.trail.transfer (whole_of named carried) c.args.told.now.telling c.args.told.now.view.now.blamed
    c.in-Some.blamed c.args.reasons.now (not c.is_empty.result) c.accused_in_row.result
    c.in-Some.is is.trail.transfer (ap not c.is_empty.ensures ∙ listed c.args.reasons.now)
    (c.accused_in_row.ensures (whole_of named carried) (sent_from c.in-Some.blamed.source) is.trail.ends
    (is.trail.number ∙ ap (λ (y : Transfer). y.number) (sym is.trail.transfer)) refl)
