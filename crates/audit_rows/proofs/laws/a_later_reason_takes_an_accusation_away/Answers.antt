use Rattle.audit_rows.proofs.Sent.{later}
use Rattle.audit_rows.proofs.laws.a_later_reason_takes_an_accusation_away.Goals as goal

pub returns : goal.returns
returns c = later
