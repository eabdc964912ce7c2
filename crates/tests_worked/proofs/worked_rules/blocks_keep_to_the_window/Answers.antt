use Rattle.tests_worked.proofs.Refused.{overrun_refused, skip_refused, back_refused}
use Rattle.tests_worked.proofs.worked_rules.blocks_keep_to_the_window.Goals as goal

pub returns-clause-overrun : goal.returns-clause-overrun
returns-clause-overrun c = overrun_refused

pub returns-clause-skipped : goal.returns-clause-skipped
returns-clause-skipped c = skip_refused

pub returns-clause-back : goal.returns-clause-back
returns-clause-back c = back_refused
