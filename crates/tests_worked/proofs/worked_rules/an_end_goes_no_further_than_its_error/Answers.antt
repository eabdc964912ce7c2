use Rattle.tests_worked.proofs.RefusedErrors.{another_refused, ack_refused}
use Rattle.tests_worked.proofs.worked_rules.an_end_goes_no_further_than_its_error.Goals as goal

pub returns-clause-another : goal.returns-clause-another
returns-clause-another c = another_refused

pub returns-clause-ack : goal.returns-clause-ack
returns-clause-ack c = ack_refused
