use Rattle.audit_views.specs.Parties.{host_name}
use Rattle.audit_recording.specs.Blame.Frames.{datagrams_of}
use Rattle.audit_cleared.proofs.Innocent.{none_at_client}
use Rattle.audit_cleared.proofs.rows.no_row_accuses_where_a_client_is_lawful.Goals as goal

pub returns-clause-interleaved : goal.returns-clause-interleaved
returns-clause-interleaved c clients x carried d t v are is_client tells = none_at_client x carried d t v
    (λ newer older p parts of rule refused. c.no_lawful_client_is_refused_without_a_doubt.ensures.spared host_name clients (datagrams_of carried) are newer older p parts x of is_client rule refused)
    tells

pub returns-clause-strayed : goal.returns-clause-strayed
returns-clause-strayed c clients strays idle x carried d t v are is_client tells = none_at_client x carried d t v
    (λ newer older p parts of rule refused. c.no_client_is_refused_for_strays_without_a_doubt.ensures.spared host_name strays idle clients (datagrams_of carried) are newer older p parts x of is_client rule refused)
    tells
