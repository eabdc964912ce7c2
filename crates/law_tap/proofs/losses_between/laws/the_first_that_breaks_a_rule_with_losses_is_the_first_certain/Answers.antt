use Rattle.law_tap.proofs.LossyCertain.{broken_is_certain}
use Rattle.law_tap.proofs.LossyNone.{unbroken_is_not_certain}
use Rattle.law_tap.proofs.losses_between.laws.the_first_that_breaks_a_rule_with_losses_is_the_first_certain.Goals as goal

pub returns-clause-certain : goal.returns-clause-certain
returns-clause-certain c = λ s earlier d broken apart begins passes b. broken_is_certain s earlier d broken apart b

pub returns-clause-first : goal.returns-clause-first
returns-clause-first c = λ s earlier d broken apart begins passes b. unbroken_is_not_certain s earlier apart begins passes
