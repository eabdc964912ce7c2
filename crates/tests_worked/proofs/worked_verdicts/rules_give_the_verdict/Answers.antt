use Rattle.tests_worked.proofs.Verdicts.{read_by_rules, overrun_by_rules}
use Rattle.tests_worked.proofs.worked_verdicts.rules_give_the_verdict.Goals as goal

pub returns-clause-accepted : goal.returns-clause-accepted
returns-clause-accepted c = read_by_rules

pub returns-clause-refused : goal.returns-clause-refused
returns-clause-refused c = overrun_by_rules
