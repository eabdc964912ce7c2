use Rattle.law_tap.proofs.WorkedLosses.{zero_alone, zero_unseen}
use Rattle.law_tap.proofs.losses.worked.an_ack_zero_before_its_oack_is_not_certain.Goals as goal

pub returns-clause-unlawful : goal.returns-clause-unlawful
returns-clause-unlawful c = zero_alone

pub returns-clause-seen : goal.returns-clause-seen
returns-clause-seen c = zero_unseen
