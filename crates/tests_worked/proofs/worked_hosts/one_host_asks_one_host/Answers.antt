use Rattle.tests_worked.proofs.Hosts.{other_request_refused, other_client_refused}
use Rattle.tests_worked.proofs.worked_hosts.one_host_asks_one_host.Goals as goal

pub returns-clause-client : goal.returns-clause-client
returns-clause-client c = other_request_refused

pub returns-clause-server : goal.returns-clause-server
returns-clause-server c = other_client_refused
