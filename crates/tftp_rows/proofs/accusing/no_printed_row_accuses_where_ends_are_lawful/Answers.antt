use Rattle.std.proofs.Common.{[], refl}
use Rattle.tftp_rows.specs.Whole.{once_ended, so_far}
use Rattle.tftp_rows.proofs.AccusingLemmas.{between_clear, clients_clear, servers_clear, still_none}
use Rattle.tftp_rows.proofs.FinalLemmas.{are_of}
use Rattle.tftp_rows.proofs.accusing.no_printed_row_accuses_where_ends_are_lawful.Goals as goal

pub returns-clause-clients : goal.returns-clause-clients
returns-clause-clients g c begun now file judging notes clients told none are =
    let all = so_far told.history told.carried told.noticed in
    clients_clear judging told.carried none clients
    (λ x v is_client d t tells. c.no_row_accuses_where_a_client_is_lawful.ensures.interleaved clients x told.carried d t v are is_client tells) begun.file.now told.tellings
    (are_of begun.file.now judging [] (once_ended told.recording all) all all told.tellings refl (record { next_frames = []; next_carried = []; frames = refl; datagrams = refl }) told.told.told)

pub returns-clause-strayed : goal.returns-clause-strayed
returns-clause-strayed g c begun now file judging notes clients strays idle told none are =
    let all = so_far told.history told.carried told.noticed in
    clients_clear judging told.carried none clients
    (λ x v is_client d t tells. c.no_row_accuses_where_a_client_is_lawful.ensures.strayed clients strays idle x told.carried d t v are is_client tells) begun.file.now told.tellings
    (are_of begun.file.now judging [] (once_ended told.recording all) all all told.tellings refl (record { next_frames = []; next_carried = []; frames = refl; datagrams = refl }) told.told.told)

pub returns-clause-servers : goal.returns-clause-servers
returns-clause-servers g c begun now file judging notes host clients told none are =
    let all = so_far told.history told.carried told.noticed in
    servers_clear judging told.carried none clients
    (λ x v is_client d t tells. c.no_row_accuses_where_a_server_is_lawful.ensures host clients x told.carried d t v are is_client tells) begun.file.now told.tellings
    (are_of begun.file.now judging [] (once_ended told.recording all) all all told.tellings refl (record { next_frames = []; next_carried = []; frames = refl; datagrams = refl }) told.told.told)

pub returns-clause-between : goal.returns-clause-between
returns-clause-between g c begun now file judging notes clients told plain are addresses =
    let all = so_far told.history told.carried told.noticed in
    between_clear judging told.carried plain clients
    (λ x v is_client known d t tells. c.no_row_accuses_between_where_a_client_is_lawful.ensures clients x told.carried d t v are addresses is_client known tells) begun.file.now told.tellings
    (are_of begun.file.now judging [] (once_ended told.recording all) all all told.tellings refl (record { next_frames = []; next_carried = []; frames = refl; datagrams = refl }) told.told.told)

pub returns-clause-lost : goal.returns-clause-lost
returns-clause-lost g c dropped row last = still_none dropped row last
