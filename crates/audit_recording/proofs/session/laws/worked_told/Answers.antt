use Rattle.std.proofs.Common.{refl}
use Rattle.std.specs.Fmt.{digits}
use Rattle.audit_recording.proofs.SessionLemmas.Worked.{told_is}
use Rattle.audit_recording.proofs.session.laws.worked_told.Goals as goal

pub returns-clause-noticed : goal.returns-clause-noticed
returns-clause-noticed c = told_is

pub returns-clause-left_out : goal.returns-clause-left_out
unfolding digits
returns-clause-left_out c = refl

pub returns-clause-lost : goal.returns-clause-lost
unfolding digits
returns-clause-lost c = refl
