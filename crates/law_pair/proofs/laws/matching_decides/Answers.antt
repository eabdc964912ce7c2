use Rattle.law_pair.proofs.MatchedCaptures.{decides_to}
use Rattle.law_pair.proofs.laws.matching_decides.Goals as goal

pub returns : goal.returns
returns c = decides_to
