use Rattle.law_model.proofs.ModelLemmas.WorkedErrors.{read_refused_is_view, read_refused_is_server_view}
use Rattle.law_model.proofs.model.laws.refused_read_is_a_run.Goals as goal

pub returns-clause-client : goal.returns-clause-client
returns-clause-client c = read_refused_is_view

pub returns-clause-server : goal.returns-clause-server
returns-clause-server c = read_refused_is_server_view
