use Rattle.law_tap.proofs.CertainBetween.{between_lossy, less_between_lossy, stays_between}
use Rattle.law_tap.proofs.losses_between.laws.less_is_lawful_between_with_losses.Goals as goal

pub returns-clause-lawful : goal.returns-clause-lawful
returns-clause-lawful c = between_lossy

pub returns-clause-less : goal.returns-clause-less
returns-clause-less c = less_between_lossy

pub returns-clause-certain : goal.returns-clause-certain
returns-clause-certain c = stays_between
