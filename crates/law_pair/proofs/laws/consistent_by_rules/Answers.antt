use Rattle.law_pair.proofs.Together.{consistent_is}
use Rattle.law_pair.proofs.laws.consistent_by_rules.Goals as goal

pub returns : goal.returns
returns c = consistent_is
