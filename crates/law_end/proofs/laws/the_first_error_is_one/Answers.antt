use Rattle.law_model.specs.Rules.{transfer_of}
use Rattle.law_end.proofs.FirstBroken.FirstError.{one_first, none_first, aborted_or_not}
use Rattle.law_end.proofs.laws.the_first_error_is_one.Goals as goal

pub returns-clause-one : goal.returns-clause-one
returns-clause-one c = λ header earlier by other code number first second. one_first (transfer_of header earlier) by other code number first second

pub returns-clause-none : goal.returns-clause-none
returns-clause-none c = λ header earlier by code none first. none_first (transfer_of header earlier) none by code first

pub returns-clause-either : goal.returns-clause-either
returns-clause-either c = aborted_or_not
