use Rattle.tests_worked.proofs.RefusedMore.{foreign_refused, nobody_refused, stray_refused}
use Rattle.tests_worked.proofs.worked_rules.ports_are_the_transfers.Goals as goal

pub returns-clause-foreign : goal.returns-clause-foreign
returns-clause-foreign c = foreign_refused

pub returns-clause-wrong : goal.returns-clause-wrong
returns-clause-wrong c = nobody_refused

pub returns-clause-stray : goal.returns-clause-stray
returns-clause-stray c = stray_refused
