-- Which datagrams are of the transfer, by the sides of the first request and of the first answer.
use Rattle.std.proofs.Common.{◌≡◌, ℕ, Bool, true, false, List, Option, Some, None, refl, sym, subst, if◌then◌else◌, ◌==◌, ◌&&◌, ◌||◌, not, option_map}
use Rattle.tftp_packet.specs.{End, Client, Server, Rollover}
use Rattle.tftp_packet.specs.Hosts.{Datagram, Header, PeerId, peer_of, same_peer}
use Rattle.law_model.specs.Rules.{asks, begins_error, begins_request, comes_in, first_of, goes_out, has_come_from, is_from_client, is_of_transfer, port_of_server, route_at_client, route_at_server, route_of}
use Rattle.law_model.specs.Rules.Ports.Route.{Request, Peer, Stray, StrayAnswer, ForeignPort, WrongPort, NoStrayAnswer}
use Rattle.tftp_commands.specs.{first_answer, is_between, sides_of}
use Rattle.tftp_commands.specs.declared.numbers.Sides.{Sides}

before_request : (from service : Bool) → is_of_transfer (if from && false then (if service then Request else WrongPort) else Peer) ≡ true
before_request true service = refl
before_request false service = refl

client_none : (here out there : Bool) → is_of_transfer (if not here then ForeignPort else if out then (if false then (if there then Request else WrongPort) else WrongPort) else Peer) ≡ (here && not out)
client_none false out there = refl
client_none true true there = refl
client_none true false there = refl

client_some : (here out there same came error : Bool)
    → is_of_transfer (if not here then ForeignPort else if out then (if false then (if there then Request else WrongPort)
    else (if same then Peer else if came then (if error then StrayAnswer else NoStrayAnswer) else WrongPort)) else (if same then Peer else Stray)) ≡ (here && same)
client_some false out there same came error = refl
client_some true true there true came error = refl
client_some true true there false true true = refl
client_some true true there false true false = refl
client_some true true there false false error = refl
client_some true false there true came error = refl
client_some true false there false came error = refl

server_asked : (here same : Bool) → is_of_transfer (if not here then ForeignPort else if not same then ForeignPort else if false then Request else WrongPort) ≡ false
server_asked false same = refl
server_asked true false = refl
server_asked true true = refl

server_none : (here out same : Bool)
    → is_of_transfer (if out then (if same then Peer else WrongPort) else (if not here then ForeignPort else if not same then ForeignPort else if false then Request else WrongPort)) ≡ (out && same)
server_none here true true = refl
server_none here true false = refl
server_none here false same = server_asked here same

server_some : (own here out same came error : Bool)
    → is_of_transfer (if out then (if not own then ForeignPort else (if same then Peer else if came then (if error then StrayAnswer else NoStrayAnswer) else WrongPort))
    else if not own || (false && here) then (if not here then ForeignPort else if not same then ForeignPort else if false then Request else WrongPort)
    else if same then (if false then WrongPort else Peer) else Stray) ≡ (own && same)
server_some false here true same came error = refl
server_some true here true true came error = refl
server_some true here true false true true = refl
server_some true here true false true false = refl
server_some true here true false false error = refl
server_some false here false same came error = server_asked here same
server_some true here false true came error = refl
server_some true here false false came error = refl

module _ (service : ℕ) (rollover : Option Rollover) (earlier : List Datagram) (d : Datagram) (no_request : begins_request d ≡ false) where
  abbrev at : End → Header
  at named = record { named = named; service = service; rollover = rollover }

  at_client : (own : ℕ) (asked : PeerId) (server : Option Datagram)
      → is_of_transfer (route_at_client own asked (option_map peer_of server) earlier d) ≡ is_between Client (Some (record { local = own; peer = asked })) (option_map sides_of server) d
  at_client own asked None = rw no_request (client_none (d.local == own) (goes_out d) (same_peer (peer_of d) asked))
  at_client own asked (Some other) =
      rw no_request (client_some (d.local == own) (goes_out d) (same_peer (peer_of d) asked) (same_peer (peer_of d) (peer_of other)) (has_come_from (peer_of d) earlier) (begins_error d))

  at_server : (own : ℕ) (client : PeerId) (answer : Option Datagram)
      → is_of_transfer (route_at_server (at Server) client (option_map (λ a. a.local) answer) earlier d) ≡ is_between Server (Some (record { local = own; peer = client })) (option_map sides_of answer) d
  at_server own client None = rw no_request (server_none (d.local == service) (goes_out d) (same_peer (peer_of d) client))
  at_server own client (Some other) =
      rw no_request (server_some (d.local == other.local) (d.local == service) (goes_out d) (same_peer (peer_of d) client) (has_come_from (peer_of d) earlier) (begins_error d))

  abbrev IsTold : End → Option Sides → Type 0
  IsTold named asked = is_of_transfer (route_of (at named) earlier d) ≡ is_between named asked (option_map sides_of (first_answer named earlier asked)) d

  by_first : (named : End) (first : Option Datagram) → first_of (asks (at named)) earlier ≡ first → IsTold named (option_map sides_of first)
  by_first named None is = rw (is, no_request) (before_request (is_from_client named d) (port_of_server named d == service))
  by_first Client (Some first) is = rw is (at_client first.local (peer_of first) (first_of comes_in earlier))
  by_first Server (Some first) is = rw is (at_server first.local (peer_of first) (first_of (λ a. goes_out a && same_peer (peer_of a) (peer_of first)) earlier))

-- it is of the transfer
pub between_is : (h : Header) (earlier : List Datagram) (d : Datagram) (asked answered : Option Sides) → asked ≡ option_map sides_of (first_of (asks h) earlier)
    → answered ≡ option_map sides_of (first_answer h.named earlier asked) → begins_request d ≡ false → is_of_transfer (route_of h earlier d) ≡ is_between h.named asked answered d
between_is h earlier d asked answered is_asked is_answered no_request =
    let told = by_first h.service h.rollover earlier d no_request h.named (first_of (asks h) earlier) refl in
    subst (λ x. is_of_transfer (route_of h earlier d) ≡ is_between h.named asked x d) (sym is_answered)
    (subst (λ x. is_of_transfer (route_of h earlier d) ≡ is_between h.named x (option_map sides_of (first_answer h.named earlier x)) d) (sym is_asked) told)
