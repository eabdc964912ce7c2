use Rattle.law_model.proofs.ModelLemmas.Worked.{six_run}
use Rattle.tests_worked.proofs.WindowsShown.{six_shown, six_server_shown, six_dressed, six_server_dressed}
use Rattle.tests_worked.proofs.worked_cases.window_out_of_order_is_shown.Goals as goal

pub returns-clause-client : goal.returns-clause-client
returns-clause-client c = six_shown

pub returns-clause-server : goal.returns-clause-server
returns-clause-server c = six_server_shown

pub returns-clause-run : goal.returns-clause-run
returns-clause-run c = six_run

pub returns-clause-client_dressed : goal.returns-clause-client_dressed
returns-clause-client_dressed c = six_dressed

pub returns-clause-server_dressed : goal.returns-clause-server_dressed
returns-clause-server_dressed c = six_server_dressed
