use Rattle.std.proofs.Common.{ap, sym, ◌∙◌}
use Rattle.audit_recording.specs.Reasons.Unplaced.{is_later}
use Rattle.audit_recording.proofs.ReasonsLemmas.Unplaced.{noted}
use Rattle.audit_recording.proofs.session.unplaced.note_at.Goals as goal

pub returns-in_ok-insert : goal.returns-in_ok-insert
returns-in_ok-insert c =
    noted c.args.latest.now c.insert.new.self c.args.end c.args.moment
    (ap (λ o. is_later o c.args.moment) (sym c.get.ensures.value) ∙ sym c.is_later.ensures ∙ c.if-is_later.true) c.in_ok-insert.ensures.updates.0
