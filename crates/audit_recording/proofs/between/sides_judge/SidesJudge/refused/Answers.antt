use Rattle.std.proofs.Common.{subst}
use Rattle.audit_recording.specs.Between.{Between, IsJudgedIfApart}
use Rattle.audit_recording.proofs.between.sides_judge.SidesJudge.refused.Goals as goal

pub returns-in-Some-clause-apart : goal.returns-in-Some-clause-apart
returns-in-Some-clause-apart g c = subst (λ (b : Between). IsJudgedIfApart b) c.self.view_is c.self.invariant

pub returns-in-None-clause-apart : goal.returns-in-None-clause-apart
returns-in-None-clause-apart g c = subst (λ (b : Between). IsJudgedIfApart b) c.self.view_is c.self.invariant
