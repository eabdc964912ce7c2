use Rattle.law_tap.proofs.Left.{goes_on}
use Rattle.law_tap.proofs.losses.laws.lock_step_goes_on_with_losses.Goals as goal

pub returns : goal.returns
returns c = goes_on
