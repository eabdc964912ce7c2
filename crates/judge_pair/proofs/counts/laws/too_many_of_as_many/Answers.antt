use Rattle.judge_pair.proofs.CountsLemmas.Growing.{many_of_many}
use Rattle.judge_pair.proofs.counts.laws.too_many_of_as_many.Goals as goal

pub returns : goal.returns
returns c = many_of_many
