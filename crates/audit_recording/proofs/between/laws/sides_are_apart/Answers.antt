use Rattle.audit_recording.proofs.BetweenLemmas.Sides.{apart_from_both, apart_only}
use Rattle.audit_recording.proofs.between.laws.sides_are_apart.Goals as goal

pub returns-clause-apart : goal.returns-clause-apart
returns-clause-apart c = apart_from_both

pub returns-clause-only : goal.returns-clause-only
returns-clause-only c = apart_only
