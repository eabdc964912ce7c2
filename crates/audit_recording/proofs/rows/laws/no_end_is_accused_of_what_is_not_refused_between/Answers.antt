use Rattle.audit_recording.proofs.RowsLemmas.Placing.{own, refused, refused_between}
use Rattle.audit_recording.proofs.rows.laws.no_end_is_accused_of_what_is_not_refused_between.Goals as goal

pub returns-clause-between : goal.returns-clause-between
returns-clause-between c = refused_between

pub returns-clause-refused : goal.returns-clause-refused
returns-clause-refused c = refused

pub returns-clause-own : goal.returns-clause-own
returns-clause-own c = own
