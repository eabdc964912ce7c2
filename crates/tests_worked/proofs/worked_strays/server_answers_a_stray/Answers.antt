use Rattle.law_model.specs.Model.{two_bytes}
use Rattle.tests_worked.specs.{at_server, read_with_a_stray_at_server}
use Rattle.tests_worked.proofs.Strays.{stray_at_server_is_shown}
use Rattle.tests_worked.proofs.Verdicts.{accepted}
use Rattle.tests_worked.proofs.worked_strays.server_answers_a_stray.Goals as goal

pub returns-clause-shown : goal.returns-clause-shown
returns-clause-shown c = stray_at_server_is_shown

pub returns-clause-accepted : goal.returns-clause-accepted
returns-clause-accepted c = accepted at_server two_bytes read_with_a_stray_at_server stray_at_server_is_shown
