use Rattle.std.proofs.Common.{[]}
use Rattle.tftp_rows.specs.Whole.{so_far}
use Rattle.tftp_rows.proofs.AccusingLemmas.{are_of_part, between_clear, between_part, client_part, clients_clear, server_part, servers_clear}
use Rattle.tftp_rows.proofs.accusing.nothing_printed_before_a_fault_accuses_where_ends_are_lawful.Goals as goal

pub returns-clause-clients : goal.returns-clause-clients
returns-clause-clients g c begun now file judging clients told none are =
    let all = so_far told.history told.carried told.noticed in (
      clients_clear judging told.carried none clients (λ x v is_client d t tells. c.no_row_accuses_where_a_client_is_lawful.ensures.interleaved clients x told.carried d t v are is_client tells) begun.file.now told.tellings
          (are_of_part g.W.Write.contents begun.file.now judging [] file told.end all told.tellings told.ended told.told.told),
      client_part judging told.carried none clients (λ x v is_client d t tells. c.no_row_accuses_where_a_client_is_lawful.ensures.interleaved clients x told.carried d t v are is_client tells) begun.file.now told.tellings,
    )

pub returns-clause-strayed : goal.returns-clause-strayed
returns-clause-strayed g c begun now file judging clients strays idle told none are =
    let all = so_far told.history told.carried told.noticed in (
      clients_clear judging told.carried none clients (λ x v is_client d t tells. c.no_row_accuses_where_a_client_is_lawful.ensures.strayed clients strays idle x told.carried d t v are is_client tells) begun.file.now told.tellings
          (are_of_part g.W.Write.contents begun.file.now judging [] file told.end all told.tellings told.ended told.told.told),
      client_part judging told.carried none clients (λ x v is_client d t tells. c.no_row_accuses_where_a_client_is_lawful.ensures.strayed clients strays idle x told.carried d t v are is_client tells) begun.file.now told.tellings,
    )

pub returns-clause-servers : goal.returns-clause-servers
returns-clause-servers g c begun now file judging host clients told none are =
    let all = so_far told.history told.carried told.noticed in (
      servers_clear judging told.carried none clients (λ x v is_client d t tells. c.no_row_accuses_where_a_server_is_lawful.ensures host clients x told.carried d t v are is_client tells) begun.file.now told.tellings
          (are_of_part g.W.Write.contents begun.file.now judging [] file told.end all told.tellings told.ended told.told.told),
      server_part judging told.carried none clients (λ x v is_client d t tells. c.no_row_accuses_where_a_server_is_lawful.ensures host clients x told.carried d t v are is_client tells) begun.file.now told.tellings,
    )

pub returns-clause-between : goal.returns-clause-between
returns-clause-between g c begun now file judging clients told plain are addresses =
    let all = so_far told.history told.carried told.noticed in (
      between_clear judging told.carried plain clients (λ x v is_client known d t tells. c.no_row_accuses_between_where_a_client_is_lawful.ensures clients x told.carried d t v are addresses is_client known tells) begun.file.now told.tellings
          (are_of_part g.W.Write.contents begun.file.now judging [] file told.end all told.tellings told.ended told.told.told),
      between_part judging told.carried plain clients (λ x v is_client known d t tells. c.no_row_accuses_between_where_a_client_is_lawful.ensures clients x told.carried d t v are addresses is_client known tells) begun.file.now told.tellings,
    )
