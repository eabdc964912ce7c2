use Rattle.std.proofs.Common.{[], All, refl, ap, arith}
use Rattle.std.proofs.lemmas.Bool.{false≢true}
use Rattle.std.proofs.lemmas.List.Elements.{All-from_recursion}
use Rattle.audit_recording.specs.Between.Worked.{first_transfer}
use Rattle.audit_cleared.specs.{HasAddresses, IsOpenedIn, IsSentThere, IsWith}
use Rattle.audit_cleared.proofs.Hosts.{address_at}
use Rattle.audit_flows.specs.Lines.{same_endpoint}
use Rattle.audit_flows.specs.{Endpoint}
use Rattle.audit_views.specs.Parties.{IsAddress}
use Rattle.audit_flows.specs.Transfers.{asked_twice, client, placed}
use Rattle.audit_flows.specs.Transfers.Worked.{server, stranger}
use Rattle.audit_cleared.proofs.worked.premises_are_met.Goals as goal

at_client : IsAddress client.address
at_client = address_at 7 (omega arith)

at_server : IsAddress server.address
at_server = address_at 1 (omega arith)

at_stranger : IsAddress stranger.address
at_stranger = address_at 9 (omega arith)

opened : IsOpenedIn first_transfer (placed [] asked_twice)
opened = (4, _, omega arith, refl, refl)

addresses : All HasAddresses asked_twice
addresses = All-from_recursion HasAddresses asked_twice
    ((at_client, at_server), ((at_stranger, at_client), ((at_server, at_client), ((at_client, at_server), ((at_client, at_server), tt)))))

pub returns-clause-client : goal.returns-clause-client
returns-clause-client c = record { opened = opened; at_service = refl; addresses = addresses; apart = refl }

-- the stray alone was not with the server
with_server : All (IsWith first_transfer server (placed [] asked_twice)) (placed [] asked_twice)
with_server = All-from_recursion (IsWith first_transfer server (placed [] asked_twice)) (placed [] asked_twice)
    ((λ at is. refl), ((λ at is. absurd (false≢true is)), ((λ at is. refl), ((λ at is. absurd (cc)), ((λ at is. absurd (cc)), tt)))))

pub returns-clause-server : goal.returns-clause-server
returns-clause-server c = record { opened = opened; at_service = refl; addresses = addresses; known = refl; apart = refl; not_itself = refl; one = with_server }

pub returns-clause-sent : goal.returns-clause-sent
returns-clause-sent c = All-from_recursion (IsSentThere first_transfer (placed [] asked_twice)) (placed [] asked_twice)
    ((λ of source. refl), ((λ of source. absurd (false≢true (ap (λ (e : Endpoint). same_endpoint e client) source))), ((λ of source. refl), ((λ of source. refl), ((λ of source. refl), tt)))))
