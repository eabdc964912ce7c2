use Rattle.law_tap.proofs.WorkedLosses.{window_alone, window_unseen}
use Rattle.law_tap.proofs.losses.worked.a_block_beyond_the_window_is_not_certain.Goals as goal

pub returns-clause-unlawful : goal.returns-clause-unlawful
returns-clause-unlawful c = window_alone

pub returns-clause-seen : goal.returns-clause-seen
returns-clause-seen c = window_unseen
