use Rattle.audit_views.proofs.ViewsLemmas.Holding.{view_passes}
use Rattle.audit_views.proofs.ViewsLemmas.Passing.{client_passes, doubts_pass_by}
use Rattle.audit_views.proofs.views.laws.what_is_not_about_a_transfer_changes_nothing.Goals as goal

pub returns-clause-client : goal.returns-clause-client
returns-clause-client c = client_passes

pub returns-clause-server : goal.returns-clause-server
returns-clause-server c = view_passes

pub returns-clause-doubts : goal.returns-clause-doubts
returns-clause-doubts c = doubts_pass_by
