use Rattle.audit_recording.proofs.SessionLemmas.NotNone.{not_none}
use Rattle.audit_recording.proofs.session.laws.what_begins_as_a_recording_is_not_said_to_be_none.Goals as goal

pub returns : goal.returns
returns c = not_none
