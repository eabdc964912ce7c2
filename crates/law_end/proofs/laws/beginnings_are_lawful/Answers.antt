use Rattle.law_end.proofs.Whole.Beginnings.{empty_is_lawful, beginning_is_lawful}
use Rattle.law_end.proofs.laws.beginnings_are_lawful.Goals as goal

pub returns-clause-empty : goal.returns-clause-empty
returns-clause-empty c = empty_is_lawful

pub returns-clause-beginning : goal.returns-clause-beginning
returns-clause-beginning c = beginning_is_lawful
