use Rattle.std.proofs.Common.{arith, refl}
use Rattle.audit_recording.proofs.session.laws.worked_once.Goals as goal

pub returns-clause-once : goal.returns-clause-once
returns-clause-once c = (omega arith, (omega arith, tt))

pub returns-clause-twice : goal.returns-clause-twice
returns-clause-twice c = λ are. (let again = are.1.0 in omega (arith, again))

pub returns-clause-apart : goal.returns-clause-apart
returns-clause-apart c = ((λ e. omega (arith, e), tt), tt)

pub returns-clause-both : goal.returns-clause-both
returns-clause-both c = λ apart. apart.1.0.0 refl
