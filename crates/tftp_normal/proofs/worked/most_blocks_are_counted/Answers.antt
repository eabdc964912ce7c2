use Rattle.tftp_normal.proofs.Computed.{most_again, most_blocks, most_in_one}
use Rattle.tftp_normal.proofs.worked.most_blocks_are_counted.Goals as goal

pub returns-clause-in_lock_step : goal.returns-clause-in_lock_step
returns-clause-in_lock_step c = most_blocks

pub returns-clause-in_one_window : goal.returns-clause-in_one_window
returns-clause-in_one_window c = most_in_one

pub returns-clause-again : goal.returns-clause-again
returns-clause-again c = most_again
