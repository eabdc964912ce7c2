use Rattle.audit_views.proofs.ViewsLemmas.Settling.{at_server_stays, server_stays, view_stays}
use Rattle.audit_views.proofs.views.laws.settled_views_stay.Goals as goal

pub returns-clause-datagrams : goal.returns-clause-datagrams
returns-clause-datagrams c n more placed settled = at_server_stays n more placed settled

pub returns-clause-view : goal.returns-clause-view
returns-clause-view c n more placed settled = view_stays n more placed settled

pub returns-clause-server : goal.returns-clause-server
returns-clause-server c n more placed settled = server_stays n more placed settled
