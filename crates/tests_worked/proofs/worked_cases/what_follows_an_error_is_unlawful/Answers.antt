use Rattle.tests_worked.proofs.ErrorsShown.{another_is_unlawful, ack_is_unlawful}
use Rattle.tests_worked.proofs.worked_cases.what_follows_an_error_is_unlawful.Goals as goal

pub returns-clause-another : goal.returns-clause-another
returns-clause-another c = another_is_unlawful

pub returns-clause-ack : goal.returns-clause-ack
returns-clause-ack c = ack_is_unlawful
