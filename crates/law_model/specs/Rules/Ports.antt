-- Transfer ids: which datagrams belong to the transfer, by their ports and the other host (RFC 1350, section 4). The
-- list `earlier` has the datagrams that have passed, the newest first.
use Rattle.std.specs.Prelude.{◌≡◌, ◌⊎◌, ℕ, ◌==◌, ◌&&◌, ◌||◌, not, Bool, true, false, List, [], ◌∷◌, Option, Some, None, option_map, if◌then◌else◌}
use Rattle.std.specs.List.{list_any}
use Rattle.tftp_packet.specs.{Message, Spells, opcode_of, End, Client, Server}
use Rattle.tftp_packet.specs.Hosts.{Datagram, Header, PeerId, peer_of, same_peer}
use Rattle.tftp_packet.specs.{Dir, In, Out}
use Rattle.law_model.specs.declared.rules.port_rule.PortRule.{PortRule}
use Rattle.law_model.specs.declared.rules.port_rule.PortRule.TheVariants.{Foreign, Wrong, BadAnswer}

-- where a datagram belongs, or which rule of ports it breaks
pub data Route : Type 0 where
  Request : Route  -- a request, to the service port
  Peer : Route  -- to or from the other end of the transfer
  Stray : Route  -- from a host or a port that is not the other end's
  StrayAnswer : Route  -- an ERROR to where a stray came from
  ForeignPort : Route  -- the port at the named end is not the transfer's
  WrongPort : Route  -- the host or the port at the other side is none that it may go to
  NoStrayAnswer : Route  -- something else than an ERROR to where a stray came from

abbrev pub goes_out : Datagram → Bool
goes_out d = is_out d.dir where
  is_out : Dir → Bool
  is_out Out = true
  is_out In = false

abbrev pub comes_in : Datagram → Bool
comes_in d = not (goes_out d)

-- the payload begins as a request does (RFC 1350, section 5)
abbrev pub begins_request : Datagram → Bool
begins_request d = (opcode_of d.payload == 1) || (opcode_of d.payload == 2)

-- the payload begins as an ERROR does
abbrev pub begins_error : Datagram → Bool
begins_error d = opcode_of d.payload == 5

-- it comes from the client's side
abbrev pub is_from_client : End → Datagram → Bool
is_from_client Client d = goes_out d
is_from_client Server d = comes_in d

-- the port at the server's side
abbrev pub port_of_server : End → Datagram → ℕ
port_of_server Client d = d.remote
port_of_server Server d = d.local

-- a request that goes to the service port
abbrev pub asks : Header → Datagram → Bool
asks h d = is_from_client h.named d && begins_request d && (port_of_server h.named d == h.service)

-- the oldest that passes the test
abbrev pub or_this : {X : Type 0} → Option X → Bool → X → Option X
or_this (Some first) passes this = Some first
or_this None true this = Some this
or_this None false this = None

abbrev pub first_of : {X : Type 0} → (X → Bool) → List X → Option X
first_of test [] = None
first_of test (x ∷ earlier) = or_this (first_of test earlier) (test x) x

-- before the first request
abbrev pub route_before : Header → Datagram → Route
route_before h d =
    if is_from_client h.named d && begins_request d then (if port_of_server h.named d == h.service then Request else WrongPort)
    else Peer

-- something has come in from there
abbrev pub has_come_from : PeerId → List Datagram → Bool
has_come_from peer earlier = list_any (λ d. comes_in d && same_peer (peer_of d) peer) earlier

-- What goes out from the end's own port. To where only strays have come from, nothing goes but an answer to them.
abbrev pub route_out : PeerId → List Datagram → Datagram → Route
route_out other earlier d =
    if same_peer (peer_of d) other then Peer
    else if has_come_from (peer_of d) earlier then (if begins_error d then StrayAnswer else NoStrayAnswer)
    else WrongPort

-- At the client, whose port is fixed by its first request, and so is where it asks. The server is fixed by the first
-- datagram that comes in: it may answer from another host than the one asked.
abbrev pub route_at_client : ℕ → PeerId → Option PeerId → List Datagram → Datagram → Route
route_at_client own asked server earlier d =
    if not (d.local == own) then ForeignPort
    else if goes_out d then (if begins_request d then (if same_peer (peer_of d) asked then Request else WrongPort) else out server)
    else back server
  where
    out : Option PeerId → Route
    out None = WrongPort
    out (Some other) = route_out other earlier d

    back : Option PeerId → Route
    back None = Peer
    back (Some other) = if same_peer (peer_of d) other then Peer else Stray

-- what comes in at the service port of a server that has not answered, or answers from another port
abbrev pub route_to_service : Header → PeerId → Datagram → Route
route_to_service h client d =
    if not (d.local == h.service) then ForeignPort
    else if not (same_peer (peer_of d) client) then ForeignPort
    else if begins_request d then Request
    else WrongPort

-- At the server: the client is fixed by its first request, the server's own port by the first datagram that goes out
-- to it.
abbrev pub route_at_server : Header → PeerId → Option ℕ → List Datagram → Datagram → Route
route_at_server h client None earlier d =
    if goes_out d then (if same_peer (peer_of d) client then Peer else WrongPort)
    else route_to_service h client d
route_at_server h client (Some own) earlier d =
    if goes_out d then (if not (d.local == own) then ForeignPort else route_out client earlier d)
    else if not (d.local == own) || (begins_request d && (d.local == h.service)) then route_to_service h client d
    else if same_peer (peer_of d) client then (if begins_request d then WrongPort else Peer)
    else Stray

-- the route, by the first request and by the first datagram from the server's side
abbrev pub route_after : End → Header → Datagram → List Datagram → Datagram → Route
route_after Client h first earlier d =
    route_at_client first.local (peer_of first) (option_map peer_of (first_of comes_in earlier)) earlier d
route_after Server h first earlier d =
    route_at_server h (peer_of first) (option_map (λ a. a.local) (first_of (λ a. goes_out a && same_peer (peer_of a) (peer_of first)) earlier)) earlier d

abbrev pub route_of : Header → List Datagram → Datagram → Route
route_of h earlier d = by (first_of (asks h) earlier) where
  by : Option Datagram → Route
  by None = route_before h d
  by (Some first) = route_after h.named h first earlier d

-- the datagram is one of the transfer
abbrev pub is_of_transfer : Route → Bool
is_of_transfer Request = true
is_of_transfer Peer = true
is_of_transfer _ = false

-- the datagrams of the transfer, without strays and what answers them
abbrev pub transfer_of : Header → List Datagram → List Datagram
transfer_of h [] = []
transfer_of h (d ∷ earlier) = if is_of_transfer (route_of h earlier d) then d ∷ transfer_of h earlier else transfer_of h earlier

-- ERROR 5, "Unknown transfer ID"
abbrev pub SaysUnknownId : Datagram → Type 0
SaysUnknownId d = (text : List ℕ) × Spells d.payload (Message.Error 5 text)

-- when a datagram breaks the rules of ports
abbrev pub PortBroken : Header → List Datagram → Datagram → PortRule → Type 0
PortBroken h earlier d Foreign = route_of h earlier d ≡ ForeignPort
PortBroken h earlier d Wrong = route_of h earlier d ≡ WrongPort
PortBroken h earlier d BadAnswer = (route_of h earlier d ≡ NoStrayAnswer) ⊎ ((route_of h earlier d ≡ StrayAnswer) × (SaysUnknownId d → ⊥))
