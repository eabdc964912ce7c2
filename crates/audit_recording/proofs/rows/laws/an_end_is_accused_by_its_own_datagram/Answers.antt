use Rattle.audit_recording.proofs.RowsLemmas.Accusing.{ends, sent}
use Rattle.audit_recording.proofs.rows.laws.an_end_is_accused_by_its_own_datagram.Goals as goal

pub returns-clause-sent : goal.returns-clause-sent
returns-clause-sent c = sent

pub returns-clause-ends : goal.returns-clause-ends
returns-clause-ends c = ends
