use Rattle.law_tap.proofs.WorkedLossesBetween.{oack_unlawful}
use Rattle.law_tap.proofs.losses_between.worked.an_oack_of_nothing_is_unlawful_with_losses.Goals as goal

pub returns : goal.returns
returns c = oack_unlawful
