use Rattle.audit_recording.proofs.SessionLemmas.Worked.{worked_is}
use Rattle.audit_recording.proofs.session.laws.worked_recording.Goals as goal

pub returns : goal.returns
returns c = worked_is
