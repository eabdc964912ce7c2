use Rattle.law_tap.proofs.LeftOut.{left_out}
use Rattle.law_tap.proofs.laws.requests_may_be_left_out.Goals as goal

pub returns : goal.returns
returns c = left_out
