use Rattle.std.proofs.lemmas.List.Elements.{recursion_from_All}
use Rattle.audit_views.specs.Parties.{host_name}
use Rattle.audit_recording.specs.Blame.Frames.{datagrams_of}
use Rattle.audit_cleared.specs.{HasAddresses}
use Rattle.audit_cleared.proofs.Innocent.{none_between}
use Rattle.audit_cleared.proofs.rows.no_row_accuses_between_where_a_client_is_lawful.Goals as goal

pub returns : goal.returns
returns c clients x carried d t v are addresses is_client known tells = none_between x carried d t v
    (λ newer older p parts of. c.no_lawful_client_is_refused_without_a_doubt.ensures.views host_name clients (datagrams_of carried) are newer older p parts x of is_client)
    (λ newer older p parts of. c.no_lawful_client_is_refused_without_a_doubt.ensures.asked host_name clients (datagrams_of carried) are newer older p parts x of is_client)
    (recursion_from_All HasAddresses (datagrams_of carried) addresses) (are.ports x.client is_client) known tells
