use Rattle.law_model.proofs.ModelLemmas.Worked.{two_bytes_is_view, two_bytes_complete, two_bytes_is_server_view, two_bytes_complete_at_server}
use Rattle.law_model.proofs.model.laws.two_bytes_are_a_run.Goals as goal

pub returns-clause-client : goal.returns-clause-client
returns-clause-client c = two_bytes_is_view

pub returns-clause-client_complete : goal.returns-clause-client_complete
returns-clause-client_complete c = two_bytes_complete

pub returns-clause-server : goal.returns-clause-server
returns-clause-server c = two_bytes_is_server_view

pub returns-clause-server_complete : goal.returns-clause-server_complete
returns-clause-server_complete c = two_bytes_complete_at_server
