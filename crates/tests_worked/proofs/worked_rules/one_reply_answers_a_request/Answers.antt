use Rattle.tests_worked.proofs.RefusedMore.{reply_refused, oack_refused, late_refused}
use Rattle.tests_worked.proofs.worked_rules.one_reply_answers_a_request.Goals as goal

pub returns-clause-after_a_block : goal.returns-clause-after_a_block
returns-clause-after_a_block c = reply_refused

pub returns-clause-another : goal.returns-clause-another
returns-clause-another c = oack_refused

pub returns-clause-late : goal.returns-clause-late
returns-clause-late c = late_refused
