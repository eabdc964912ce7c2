use Rattle.tests_worked.proofs.Refused.{last_refused}
use Rattle.tests_worked.proofs.RefusedMore.{many_refused}
use Rattle.tests_worked.proofs.worked_rules.blocks_end_at_65535.Goals as goal

pub returns-clause-block : goal.returns-clause-block
returns-clause-block c = last_refused

pub returns-clause-size : goal.returns-clause-size
returns-clause-size c = many_refused
