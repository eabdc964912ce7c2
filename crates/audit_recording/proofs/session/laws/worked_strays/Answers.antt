use Rattle.std.proofs.Common.{refl}
use Rattle.std.specs.Fmt.{digits}
use Rattle.audit_recording.proofs.session.laws.worked_strays.Goals as goal

pub returns-clause-begun : goal.returns-clause-begun
unfolding digits
returns-clause-begun c = refl

pub returns-clause-few : goal.returns-clause-few
unfolding digits
returns-clause-few c = refl

pub returns-clause-many : goal.returns-clause-many
unfolding digits
returns-clause-many c = refl

pub returns-clause-ports : goal.returns-clause-ports
unfolding digits
returns-clause-ports c = refl

pub returns-clause-once : goal.returns-clause-once
unfolding digits
returns-clause-once c = refl
