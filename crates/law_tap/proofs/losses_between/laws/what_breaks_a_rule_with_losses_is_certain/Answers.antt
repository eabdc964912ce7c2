use Rattle.law_tap.proofs.LossyCertain.{broken_is_certain}
use Rattle.law_tap.proofs.losses_between.laws.what_breaks_a_rule_with_losses_is_certain.Goals as goal

pub returns : goal.returns
returns c = broken_is_certain
