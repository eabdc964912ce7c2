use Rattle.audit_views.specs.Parties.{host_name}
use Rattle.audit_recording.specs.Blame.Frames.{datagrams_of}
use Rattle.audit_cleared.proofs.Innocent.{none_at_server}
use Rattle.audit_cleared.proofs.rows.no_row_accuses_where_a_server_is_lawful.Goals as goal

pub returns : goal.returns
returns c host clients x carried d t v are is_client tells = none_at_server x carried d t v
    (λ newer older p parts of rule refused. c.no_lawful_end_is_refused_at_the_server_without_a_doubt.ensures.late host_name host clients (datagrams_of carried) are newer older p parts x of is_client rule refused)
    tells
