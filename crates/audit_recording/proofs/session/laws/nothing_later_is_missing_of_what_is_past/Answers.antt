use Rattle.audit_recording.proofs.SessionLemmas.Over.{missing_before, missing_later}
use Rattle.audit_recording.proofs.session.laws.nothing_later_is_missing_of_what_is_past.Goals as goal

pub returns-clause-whole : goal.returns-clause-whole
returns-clause-whole c = λ w newest moment history last past. missing_before w newest moment history last past.silent

pub returns-clause-missing : goal.returns-clause-missing
returns-clause-missing c = missing_later
