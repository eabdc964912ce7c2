use Rattle.law_tap.proofs.WorkedOptions.{size_unknown, window_known}
use Rattle.law_tap.proofs.losses.worked.what_was_not_asked_for_is_known.Goals as goal

pub returns-clause-window : goal.returns-clause-window
returns-clause-window c = window_known

pub returns-clause-size : goal.returns-clause-size
returns-clause-size c = size_unknown

pub returns-clause-back : goal.returns-clause-back
returns-clause-back c = window_known

pub returns-clause-length : goal.returns-clause-length
returns-clause-length c = size_unknown
