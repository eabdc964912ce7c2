use Rattle.law_tap.proofs.WorkedLossyRules.{block_lossy, above_broken, above_certain}
use Rattle.law_tap.proofs.losses_between.worked.an_ack_above_the_last_block_is_certain_between.Goals as goal

pub returns-clause-before : goal.returns-clause-before
returns-clause-before c = block_lossy

pub returns-clause-broken : goal.returns-clause-broken
returns-clause-broken c = above_broken

pub returns-clause-certain : goal.returns-clause-certain
returns-clause-certain c = above_certain
