use Rattle.audit_flows.specs.Lines.{is_of}
use Rattle.audit_flows.proofs.TransfersLemmas.OwnDatagrams.{at_server_kept, client_view_kept, server_kept, server_view_kept, settled_kept}
use Rattle.audit_flows.proofs.transfers.laws.a_transfers_own_datagrams_tell_its_views.Goals as goal

pub returns-clause-server : goal.returns-clause-server
returns-clause-server c n placed = server_kept n (is_of n) (λ p off. off) placed

pub returns-clause-settled : goal.returns-clause-settled
returns-clause-settled c n placed = settled_kept n (is_of n) (λ p off. off) placed

pub returns-clause-at_server : goal.returns-clause-at_server
returns-clause-at_server c n placed p = at_server_kept n (is_of n) (λ q off. off) placed p

pub returns-clause-client_view : goal.returns-clause-client_view
returns-clause-client_view c n placed = client_view_kept n placed

pub returns-clause-server_view : goal.returns-clause-server_view
returns-clause-server_view c n placed = server_view_kept n placed
