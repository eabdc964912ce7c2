use Rattle.std.proofs.Common.{refl}
use Rattle.law_model.specs.{EndRule}
use Rattle.law_end.specs.{Rule}
use Rattle.tests_worked.specs.{acknowledges_two, at_client, read_without_its_ack, ack_zero, before_ack_zero}
use Rattle.tests_worked.proofs.ByRules.{refused_verdict}
use Rattle.tests_worked.proofs.Refused.{zero_refused}
use Rattle.tests_worked.proofs.RefusedMore.{ahead_refused}
use Rattle.tests_worked.proofs.worked_verdicts.acks_have_their_verdicts.Goals as goal

pub returns-clause-ahead : goal.returns-clause-ahead
returns-clause-ahead c = refused_verdict at_client read_without_its_ack acknowledges_two (Rule.Block EndRule.AckAhead) 3 refl refl ahead_refused

pub returns-clause-zero : goal.returns-clause-zero
returns-clause-zero c = refused_verdict at_client before_ack_zero ack_zero (Rule.Block EndRule.AckZero) 3 refl refl zero_refused
