use Rattle.audit_flows.proofs.TransfersLemmas.Seeing.{one_at_client, one_at_server, client_or_beside}
use Rattle.audit_flows.proofs.transfers.laws.a_datagram_is_of_one_transfer.Goals as goal

pub returns-clause-client : goal.returns-clause-client
returns-clause-client c n m p is also = one_at_client n m p is also

pub returns-clause-server : goal.returns-clause-server
returns-clause-server c n m one other p is also = one_at_server n m one other p is also

pub returns-clause-strays : goal.returns-clause-strays
returns-clause-strays c n placed p is = client_or_beside n placed p is
