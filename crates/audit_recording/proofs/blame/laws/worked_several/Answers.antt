use Rattle.std.proofs.Common.{refl}
use Rattle.memchr.proofs.Computing.{computing}
use Rattle.audit_recording.proofs.blame.laws.worked_several.Goals as goal

pub returns-clause-next : goal.returns-clause-next
unfolding computing
returns-clause-next c = refl

pub returns-clause-again : goal.returns-clause-again
unfolding computing
returns-clause-again c = refl

pub returns-clause-acks : goal.returns-clause-acks
unfolding computing
returns-clause-acks c = refl

pub returns-clause-one : goal.returns-clause-one
unfolding computing
returns-clause-one c = refl

pub returns-clause-alone : goal.returns-clause-alone
unfolding computing
returns-clause-alone c = refl

pub returns-clause-short : goal.returns-clause-short
unfolding computing
returns-clause-short c = refl
