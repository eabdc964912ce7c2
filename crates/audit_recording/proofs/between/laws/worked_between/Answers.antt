use Rattle.std.proofs.Common.{refl}
use Rattle.std.specs.Fmt.{digits}
use Rattle.audit_recording.proofs.between.laws.worked_between.Goals as goal

pub returns-clause-capture : goal.returns-clause-capture
unfolding digits
returns-clause-capture c = refl

pub returns-clause-sides : goal.returns-clause-sides
unfolding digits
returns-clause-sides c = refl
