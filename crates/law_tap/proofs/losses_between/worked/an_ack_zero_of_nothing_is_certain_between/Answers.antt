use Rattle.law_tap.proofs.WorkedLossyRules.{zero_broken, zero_certain}
use Rattle.law_tap.proofs.losses_between.worked.an_ack_zero_of_nothing_is_certain_between.Goals as goal

pub returns-clause-broken : goal.returns-clause-broken
returns-clause-broken c = zero_broken

pub returns-clause-certain : goal.returns-clause-certain
returns-clause-certain c = zero_certain
