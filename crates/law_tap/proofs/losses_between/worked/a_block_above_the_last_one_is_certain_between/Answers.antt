use Rattle.law_tap.proofs.WorkedLossyRules.{second_broken, second_certain}
use Rattle.law_tap.proofs.losses_between.worked.a_block_above_the_last_one_is_certain_between.Goals as goal

pub returns-clause-broken : goal.returns-clause-broken
returns-clause-broken c = second_broken

pub returns-clause-certain : goal.returns-clause-certain
returns-clause-certain c = second_certain
