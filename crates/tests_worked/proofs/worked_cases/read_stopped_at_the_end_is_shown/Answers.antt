use Rattle.tests_worked.proofs.ErrorsShown.{stopped_shown, stopped_after_shown}
use Rattle.tests_worked.proofs.worked_cases.read_stopped_at_the_end_is_shown.Goals as goal

pub returns-clause-before : goal.returns-clause-before
returns-clause-before c = stopped_shown

pub returns-clause-after : goal.returns-clause-after
returns-clause-after c = stopped_after_shown
