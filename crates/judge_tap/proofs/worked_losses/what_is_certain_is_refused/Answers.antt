use Rattle.judge_tap.proofs.WorkedLossy.{above_refused, change_refused, no_other_index, second_refused, zero_refused}
use Rattle.judge_tap.proofs.worked_losses.what_is_certain_is_refused.Goals as goal

pub returns-clause-above : goal.returns-clause-above
returns-clause-above c = above_refused

pub returns-clause-changed : goal.returns-clause-changed
returns-clause-changed c = change_refused

pub returns-clause-second : goal.returns-clause-second
returns-clause-second c = second_refused

pub returns-clause-zero : goal.returns-clause-zero
returns-clause-zero c = zero_refused

pub returns-clause-index : goal.returns-clause-index
returns-clause-index c = no_other_index
