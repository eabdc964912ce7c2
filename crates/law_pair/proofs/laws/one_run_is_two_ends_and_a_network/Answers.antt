use Rattle.law_pair.proofs.TwoViews.{pair_is}
use Rattle.law_pair.proofs.laws.one_run_is_two_ends_and_a_network.Goals as goal

pub returns : goal.returns
returns c = pair_is
