use Rattle.law_tap.proofs.WorkedTap.{nothing_tap}
use Rattle.law_tap.proofs.WorkedLossesBetween.{ack_unseen_between, read_between_lossy}
use Rattle.law_tap.proofs.losses_between.worked.an_ack_ahead_is_not_certain_between.Goals as goal

pub returns-clause-unlawful : goal.returns-clause-unlawful
returns-clause-unlawful c = nothing_tap

pub returns-clause-seen : goal.returns-clause-seen
returns-clause-seen c = ack_unseen_between

pub returns-clause-lawful : goal.returns-clause-lawful
returns-clause-lawful c = read_between_lossy
