use Rattle.law_tap.proofs.LossyDecided.{explained_is_not_beyond}
use Rattle.law_tap.proofs.losses_between.laws.an_explained_block_is_within_65535.Goals as goal

pub returns : goal.returns
returns c = explained_is_not_beyond
