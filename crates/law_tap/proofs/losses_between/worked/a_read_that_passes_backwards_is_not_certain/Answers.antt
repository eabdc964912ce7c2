use Rattle.law_tap.proofs.WorkedLossesBetween.{read_turned}
use Rattle.law_tap.proofs.losses_between.worked.a_read_that_passes_backwards_is_not_certain.Goals as goal

pub returns : goal.returns
returns c = read_turned
