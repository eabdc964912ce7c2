use Rattle.law_pair.proofs.PairVerdict.{pair_one, pair_decides}
use Rattle.law_pair.proofs.laws.verdict_on_two_is_one.Goals as goal

pub returns : goal.returns
returns c = record { one = pair_one; decides = pair_decides }
