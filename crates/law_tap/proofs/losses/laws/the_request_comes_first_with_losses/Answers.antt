use Rattle.law_tap.proofs.Left.{asks_first}
use Rattle.law_tap.proofs.losses.laws.the_request_comes_first_with_losses.Goals as goal

pub returns : goal.returns
returns c = asks_first
