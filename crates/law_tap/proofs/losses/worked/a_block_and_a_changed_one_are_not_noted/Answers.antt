use Rattle.law_tap.proofs.WorkedLosses.{change_unnoted}
use Rattle.law_tap.proofs.losses.worked.a_block_and_a_changed_one_are_not_noted.Goals as goal

pub returns : goal.returns
returns c = change_unnoted
