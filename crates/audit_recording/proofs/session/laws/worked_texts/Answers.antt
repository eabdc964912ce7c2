use Rattle.std.proofs.Common.{refl}
use Rattle.std.specs.Fmt.{digits}
use Rattle.audit_recording.proofs.session.laws.worked_texts.Goals as goal

pub returns-clause-told : goal.returns-clause-told
unfolding digits
returns-clause-told c = refl

pub returns-clause-untold : goal.returns-clause-untold
unfolding digits
returns-clause-untold c = refl

pub returns-clause-second : goal.returns-clause-second
returns-clause-second c = refl

pub returns-clause-unopened : goal.returns-clause-unopened
returns-clause-unopened c = refl

pub returns-clause-heading : goal.returns-clause-heading
unfolding digits
returns-clause-heading c = refl
