use Rattle.law_model.proofs.ModelLemmas.Starts.{asked_first, client_asked_first, only_requests_first}
use Rattle.law_model.proofs.model.laws.the_request_comes_first.Goals as goal

pub returns-clause-server : goal.returns-clause-server
returns-clause-server c = asked_first

pub returns-clause-request : goal.returns-clause-request
returns-clause-request c = client_asked_first

pub returns-clause-client : goal.returns-clause-client
returns-clause-client c = only_requests_first
