use Rattle.judge_tap.proofs.WorkedLossy.{other_error}
use Rattle.judge_tap.proofs.worked_losses.an_error_again_is_the_same.Goals as goal

pub returns-clause-other : goal.returns-clause-other
returns-clause-other c = other_error
