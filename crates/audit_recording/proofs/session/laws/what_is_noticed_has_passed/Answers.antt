use Rattle.audit_recording.proofs.SessionLemmas.Recording.{noticed_passed}
use Rattle.audit_recording.proofs.session.laws.what_is_noticed_has_passed.Goals as goal

pub returns : goal.returns
returns c = noticed_passed
