use Rattle.tests_worked.proofs.ErrorVerdicts.{another_verdict, ack_verdict, late_verdict}
use Rattle.tests_worked.proofs.worked_verdicts.what_follows_an_error_is_unlawful.Goals as goal

pub returns-clause-another : goal.returns-clause-another
returns-clause-another c = another_verdict

pub returns-clause-ack : goal.returns-clause-ack
returns-clause-ack c = ack_verdict

pub returns-clause-late : goal.returns-clause-late
returns-clause-late c = late_verdict
