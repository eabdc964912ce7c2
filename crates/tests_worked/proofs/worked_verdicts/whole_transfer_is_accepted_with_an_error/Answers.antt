use Rattle.tests_worked.proofs.ErrorVerdicts.{stopped_verdict, stopped_after_verdict}
use Rattle.tests_worked.proofs.worked_verdicts.whole_transfer_is_accepted_with_an_error.Goals as goal

pub returns-clause-before : goal.returns-clause-before
returns-clause-before c = stopped_verdict

pub returns-clause-after : goal.returns-clause-after
returns-clause-after c = stopped_after_verdict
