use Rattle.tests_worked.proofs.Refused.{short_refused, changed_refused}
use Rattle.tests_worked.proofs.worked_rules.blocks_are_those_of_the_file.Goals as goal

pub returns-clause-length : goal.returns-clause-length
returns-clause-length c = short_refused

pub returns-clause-changed : goal.returns-clause-changed
returns-clause-changed c = changed_refused
