use Rattle.audit_recording.proofs.RowsLemmas.Placing.{refused_there}
use Rattle.audit_recording.proofs.RowsLemmas.AllTold.{told_at_end, told_between}
use Rattle.audit_recording.proofs.rows.laws.what_is_judged_is_told.Goals as goal

pub returns-clause-ends : goal.returns-clause-ends
returns-clause-ends c = told_at_end

pub returns-clause-between : goal.returns-clause-between
returns-clause-between c = told_between

pub returns-clause-at_ends : goal.returns-clause-at_ends
returns-clause-at_ends c = refused_there
