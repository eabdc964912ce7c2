-- What a route says of a datagram, after the first request: which way it goes, and whether the other side is the other
-- end.
use Rattle.std.proofs.Common.{◌≡◌, ℕ, Bool, true, false, List, Option, Some, None, refl, if◌then◌else◌, ◌==◌, ◌&&◌, ◌||◌, not}
use Rattle.tftp_packet.specs.Hosts.{Datagram, Header, PeerId, peer_of, same_peer}
use Rattle.law_model.specs.Rules.{Route, goes_out, begins_request, begins_error, has_come_from, route_at_client, route_at_server}
use Rattle.law_model.specs.Rules.Ports.Route.{Request, Peer, Stray, StrayAnswer, ForeignPort, WrongPort, NoStrayAnswer}

-- at the client, by where the server is known to be
abbrev pub AtClient : Route → Bool → Option PeerId → Datagram → Type 0
AtClient Request out server d = out ≡ true
AtClient Peer true server d = Unit {0}
AtClient Peer false None d = Unit {0}
AtClient Peer false (Some other) d = same_peer (peer_of d) other ≡ true
AtClient Stray out None d = ⊥
AtClient Stray out (Some other) d = (out ≡ false) × (same_peer (peer_of d) other ≡ false)
AtClient StrayAnswer out server d = out ≡ true
AtClient _ out server d = Unit {0}

-- at the server, by whether the own port is known
abbrev pub AtServer : Route → Bool → Option ℕ → PeerId → Datagram → Type 0
AtServer Request out own client d = (out ≡ false) × (same_peer (peer_of d) client ≡ true)
AtServer Peer true (Some port) client d = Unit {0}
AtServer Peer out own client d = same_peer (peer_of d) client ≡ true
AtServer Stray out own client d = (out ≡ false) × (same_peer (peer_of d) client ≡ false)
AtServer StrayAnswer out None client d = ⊥
AtServer StrayAnswer out (Some port) client d = out ≡ true
AtServer _ out own client d = Unit {0}

client_unknown : (here out request there : Bool) (d : Datagram)
    → AtClient (if not here then ForeignPort else if out then (if request then (if there then Request else WrongPort) else WrongPort) else Peer) out None d
client_unknown false out request there d = tt
client_unknown true true true true d = refl
client_unknown true true true false d = tt
client_unknown true true false there d = tt
client_unknown true false request there d = tt

client_known : (here out request there same came error : Bool) (other : PeerId) (d : Datagram) → same_peer (peer_of d) other ≡ same
    → AtClient (if not here then ForeignPort else if out then (if request then (if there then Request else WrongPort)
    else (if same then Peer else if came then (if error then StrayAnswer else NoStrayAnswer) else WrongPort)) else (if same then Peer else Stray)) out (Some other) d
client_known false out request there same came error other d is = tt
client_known true true true true same came error other d is = refl
client_known true true true false same came error other d is = tt
client_known true true false there true came error other d is = tt
client_known true true false there false true true other d is = refl
client_known true true false there false true false other d is = tt
client_known true true false there false false error other d is = tt
client_known true false request there true came error other d is = is
client_known true false request there false came error other d is = (refl, is)

pub at_client : (own : ℕ) (asked : PeerId) (server : Option PeerId) (earlier : List Datagram) (d : Datagram)
    → AtClient (route_at_client own asked server earlier d) (goes_out d) server d
at_client own asked None earlier d = client_unknown (d.local == own) (goes_out d) (begins_request d) (same_peer (peer_of d) asked) d
at_client own asked (Some other) earlier d =
    client_known (d.local == own) (goes_out d) (begins_request d) (same_peer (peer_of d) asked) (same_peer (peer_of d) other) (has_come_from (peer_of d) earlier) (begins_error d) other d refl

server_asked : (here request same : Bool) (own : Option ℕ) (client : PeerId) (d : Datagram) → same_peer (peer_of d) client ≡ same
    → AtServer (if not here then ForeignPort else if not same then ForeignPort else if request then Request else WrongPort) false own client d
server_asked false request same own client d is = tt
server_asked true request false own client d is = tt
server_asked true true true own client d is = (refl, is)
server_asked true false true own client d is = tt

server_unknown : (here out request same : Bool) (client : PeerId) (d : Datagram) → same_peer (peer_of d) client ≡ same
    → AtServer (if out then (if same then Peer else WrongPort) else (if not here then ForeignPort else if not same then ForeignPort else if request then Request else WrongPort)) out None client d
server_unknown here true request true client d is = is
server_unknown here true request false client d is = tt
server_unknown here false request same client d is = server_asked here request same None client d is

server_known : (own here out request same came error : Bool) (port : ℕ) (client : PeerId) (d : Datagram) → same_peer (peer_of d) client ≡ same
    → AtServer (if out then (if not own then ForeignPort else (if same then Peer else if came then (if error then StrayAnswer else NoStrayAnswer) else WrongPort))
    else if not own || (request && here) then (if not here then ForeignPort else if not same then ForeignPort else if request then Request else WrongPort)
    else if same then (if request then WrongPort else Peer) else Stray) out (Some port) client d
server_known false here true request same came error port client d is = tt
server_known true here true request true came error port client d is = tt
server_known true here true request false true true port client d is = refl
server_known true here true request false true false port client d is = tt
server_known true here true request false false error port client d is = tt
server_known false here false request same came error port client d is = server_asked here request same (Some port) client d is
server_known true true false true same came error port client d is = server_asked true true same (Some port) client d is
server_known true false false true true came error port client d is = tt
server_known true false false true false came error port client d is = (refl, is)
server_known true here false false true came error port client d is = is
server_known true here false false false came error port client d is = (refl, is)

pub at_server : (h : Header) (client : PeerId) (own : Option ℕ) (earlier : List Datagram) (d : Datagram)
    → AtServer (route_at_server h client own earlier d) (goes_out d) own client d
at_server h client None earlier d = server_unknown (d.local == h.service) (goes_out d) (begins_request d) (same_peer (peer_of d) client) client d refl
at_server h client (Some port) earlier d =
    server_known (d.local == port) (d.local == h.service) (goes_out d) (begins_request d) (same_peer (peer_of d) client) (has_come_from (peer_of d) earlier) (begins_error d) port client d refl
