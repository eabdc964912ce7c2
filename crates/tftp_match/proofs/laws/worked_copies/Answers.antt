use Rattle.std.proofs.Common.{refl}
use Rattle.std.specs.Fmt.{digits}
use Rattle.tftp_match.proofs.laws.worked_copies.Goals as goal

pub returns-clause-copies : goal.returns-clause-copies
returns-clause-copies c = refl

pub returns-clause-lines : goal.returns-clause-lines
unfolding digits
returns-clause-lines c = refl

pub returns-clause-openings : goal.returns-clause-openings
unfolding digits
returns-clause-openings c = refl
