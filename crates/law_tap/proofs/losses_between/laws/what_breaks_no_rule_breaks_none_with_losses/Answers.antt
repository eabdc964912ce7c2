use Rattle.law_tap.proofs.LossyNone.{accepted_breaks_none}
use Rattle.law_tap.proofs.losses_between.laws.what_breaks_no_rule_breaks_none_with_losses.Goals as goal

pub returns : goal.returns
returns c = accepted_breaks_none
