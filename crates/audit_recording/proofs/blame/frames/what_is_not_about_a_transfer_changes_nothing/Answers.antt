use Rattle.audit_recording.proofs.BlameLemmas.Trailing.{between_passed_by, trail_passed_by}
use Rattle.audit_recording.proofs.blame.frames.what_is_not_about_a_transfer_changes_nothing.Goals as goal

pub returns-clause-ends : goal.returns-clause-ends
returns-clause-ends c = trail_passed_by

pub returns-clause-between : goal.returns-clause-between
returns-clause-between c = between_passed_by
