use Rattle.std.proofs.Common.{refl, arith}
use Rattle.std.proofs.lemmas.List.Elements.{All-from_recursion}
use Rattle.std.specs.Fmt.{digits}
use Rattle.std.specs.Prelude.{◌∷◌}
use Rattle.audit_cleared.specs.{HasAddresses}
use Rattle.audit_cleared.specs.Worked.{before_going_on, to_who_answered}
use Rattle.audit_views.specs.Parties.{IsAddress}
use Rattle.audit_flows.specs.Transfers.{client}
use Rattle.audit_flows.specs.Transfers.Worked.{server, stranger}
use Rattle.audit_cleared.proofs.Hosts.{address_at}
use Rattle.audit_cleared.proofs.Learned.{breaks_no_rule}
use Rattle.audit_cleared.proofs.worked.the_service_is_needed.Goals as goal

at_client : IsAddress client.address
at_client = address_at 7 (omega arith)

at_server : IsAddress server.address
at_server = address_at 1 (omega arith)

at_stranger : IsAddress stranger.address
at_stranger = address_at 9 (omega arith)

pub returns-clause-opened : goal.returns-clause-opened
returns-clause-opened c = (4, _, omega arith, refl, refl)

pub returns-clause-addresses : goal.returns-clause-addresses
returns-clause-addresses c = All-from_recursion HasAddresses (to_who_answered ∷ before_going_on)
    ((at_client, at_server), ((at_server, at_client), ((at_client, at_server), ((at_server, at_stranger), ((at_client, at_server), tt)))))

pub returns-clause-client : goal.returns-clause-client
returns-clause-client c = breaks_no_rule

pub returns-clause-between : goal.returns-clause-between
unfolding digits
returns-clause-between c = refl

pub returns-clause-refused : goal.returns-clause-refused
unfolding digits
returns-clause-refused c none = none.0.read
