use Rattle.law_tap.proofs.WorkedLosses.{start_alone, start_unseen}
use Rattle.law_tap.proofs.losses.worked.a_block_before_its_start_is_not_certain.Goals as goal

pub returns-clause-unlawful : goal.returns-clause-unlawful
returns-clause-unlawful c = start_alone

pub returns-clause-seen : goal.returns-clause-seen
returns-clause-seen c = start_unseen
