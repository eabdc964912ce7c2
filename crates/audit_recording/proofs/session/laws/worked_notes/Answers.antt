use Rattle.std.proofs.Common.{refl}
use Rattle.std.specs.Fmt.{digits}
use Rattle.audit_recording.proofs.session.laws.worked_notes.Goals as goal

pub returns-clause-begun : goal.returns-clause-begun
unfolding digits
returns-clause-begun c = refl

pub returns-clause-behind : goal.returns-clause-behind
unfolding digits
returns-clause-behind c = refl

pub returns-clause-dropped : goal.returns-clause-dropped
unfolding digits
returns-clause-dropped c = refl

pub returns-clause-fault : goal.returns-clause-fault
unfolding digits
returns-clause-fault c = refl

pub returns-clause-ports : goal.returns-clause-ports
unfolding digits
returns-clause-ports c = refl
