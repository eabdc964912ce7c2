use Rattle.law_tap.proofs.WorkedLosses.{other_alone, other_unseen}
use Rattle.law_tap.proofs.losses.worked.a_block_that_skips_one_is_not_certain.Goals as goal

pub returns-clause-unlawful : goal.returns-clause-unlawful
returns-clause-unlawful c = other_alone

pub returns-clause-seen : goal.returns-clause-seen
returns-clause-seen c = other_unseen
