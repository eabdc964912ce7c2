use Rattle.std.proofs.Common.{refl}
use Rattle.law_model.proofs.ModelLemmas.Worked.{six_count, six_run, six_complete, six_server_complete}
use Rattle.law_model.proofs.model.laws.window_out_of_order_is_a_run.Goals as goal

pub returns-clause-blocks : goal.returns-clause-blocks
returns-clause-blocks c = six_count

pub returns-clause-run : goal.returns-clause-run
returns-clause-run c = six_run

pub returns-clause-client : goal.returns-clause-client
returns-clause-client c = refl

pub returns-clause-client_complete : goal.returns-clause-client_complete
returns-clause-client_complete c = six_complete

pub returns-clause-server : goal.returns-clause-server
returns-clause-server c = refl

pub returns-clause-server_complete : goal.returns-clause-server_complete
returns-clause-server_complete c = six_server_complete
