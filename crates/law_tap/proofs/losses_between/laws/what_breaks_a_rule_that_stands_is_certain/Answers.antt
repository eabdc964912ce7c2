use Rattle.law_tap.proofs.StandingRules.{breaks_lossy, standing_is_certain}
use Rattle.law_tap.proofs.losses_between.laws.what_breaks_a_rule_that_stands_is_certain.Goals as goal

pub returns-clause-breaks : goal.returns-clause-breaks
returns-clause-breaks c = breaks_lossy

pub returns-clause-certain : goal.returns-clause-certain
returns-clause-certain c = standing_is_certain
