use Rattle.std.proofs.Common.{arith}
use Rattle.tests_worked.proofs.ErrorsShown.{late_lawful, late_is_unlawful}
use Rattle.tests_worked.proofs.worked_cases.answer_to_a_late_ack_is_unlawful.Goals as goal

pub returns : goal.returns
returns c = record { within = omega arith; lawful = late_lawful; unlawful = late_is_unlawful }
