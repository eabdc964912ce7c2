use Rattle.law_tap.proofs.WorkedLossyRules.{ack_uncertain}
use Rattle.judge_tap.proofs.WorkedLossy.{ack_begun, ack_not_refused}
use Rattle.judge_tap.proofs.worked_losses.an_ack_ahead_is_not_refused.Goals as goal

pub returns-clause-begun : goal.returns-clause-begun
returns-clause-begun c = ack_begun

pub returns-clause-refused : goal.returns-clause-refused
returns-clause-refused c = ack_not_refused

pub returns-clause-not_certain : goal.returns-clause-not_certain
returns-clause-not_certain c = ack_uncertain
