use Rattle.tests_worked.proofs.Accepted.{plain_passes, six_passes, served_passes, again_passes, window_passes}
use Rattle.tests_worked.proofs.worked_rules.whole_transfers_break_no_rule.Goals as goal

pub returns-clause-read : goal.returns-clause-read
returns-clause-read c = plain_passes

pub returns-clause-window : goal.returns-clause-window
returns-clause-window c = six_passes

pub returns-clause-window_at_the_server : goal.returns-clause-window_at_the_server
returns-clause-window_at_the_server c = served_passes

pub returns-clause-block_again : goal.returns-clause-block_again
returns-clause-block_again c = again_passes

pub returns-clause-window_again : goal.returns-clause-window_again
returns-clause-window_again c = window_passes
