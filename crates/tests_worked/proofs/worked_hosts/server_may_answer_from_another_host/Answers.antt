use Rattle.tests_worked.proofs.Hosts.{from_third_is_shown, asked_refused}
use Rattle.tests_worked.proofs.worked_hosts.server_may_answer_from_another_host.Goals as goal

pub returns-clause-shown : goal.returns-clause-shown
returns-clause-shown c = from_third_is_shown

pub returns-clause-fixed : goal.returns-clause-fixed
returns-clause-fixed c = asked_refused
