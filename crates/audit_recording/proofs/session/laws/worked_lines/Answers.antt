use Rattle.std.proofs.Common.{refl}
use Rattle.std.specs.Fmt.{digits}
use Rattle.audit_recording.proofs.session.laws.worked_lines.Goals as goal

pub returns-clause-two : goal.returns-clause-two
unfolding digits
returns-clause-two c = refl

pub returns-clause-five : goal.returns-clause-five
unfolding digits
returns-clause-five c = refl

pub returns-clause-six : goal.returns-clause-six
unfolding digits
returns-clause-six c = refl
