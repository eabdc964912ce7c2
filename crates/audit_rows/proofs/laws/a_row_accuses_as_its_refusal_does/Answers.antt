use Rattle.audit_rows.proofs.Sent.{as_refused}
use Rattle.audit_rows.proofs.laws.a_row_accuses_as_its_refusal_does.Goals as goal

pub returns : goal.returns
returns c = as_refused
