use Rattle.std.proofs.Common.{refl}
use Rattle.std.specs.Fmt.{digits}
use Rattle.tftp_match.proofs.laws.worked_unsent.Goals as goal

pub returns-clause-judged : goal.returns-clause-judged
unfolding digits
returns-clause-judged c = refl

pub returns-clause-refused : goal.returns-clause-refused
unfolding digits
returns-clause-refused c = refl

pub returns-clause-later : goal.returns-clause-later
unfolding digits
returns-clause-later c = refl
