use Rattle.law_tap.proofs.Left.{silent}
use Rattle.law_tap.proofs.losses.laws.nothing_follows_an_error_with_losses.Goals as goal

pub returns : goal.returns
returns c = silent
