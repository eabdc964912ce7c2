-- Which datagrams that passed between the ends belong to the transfer, by their two sides (RFC 1350, section 4). The list
-- `earlier` has the datagrams that have passed, the newest first.
use Rattle.std.specs.Prelude.{ℕ, ◌==◌, ◌&&◌, ◌||◌, Bool, true, false, List, [], ◌∷◌, if◌then◌else◌}
use Rattle.std.specs.List.{list_any}
use Rattle.tftp_packet.specs.{opcode_of}
use Rattle.tftp_packet.specs.Hosts.{same_peer}
use Rattle.law_tap.specs.TapCapture.{PeerId, TapDatagram, TapSides, side_of}
use Rattle.law_tap.specs.TapOrder.{Tests}
use Rattle.law_tap.specs.declared.route.TapRoute.{TapRoute}
use Rattle.law_tap.specs.declared.route.TapRoute.TheVariants.{Request, FromClient, FromServer, Stray, StrayAnswer, ForeignPort, WrongPort, NoStrayAnswer}

-- the payload begins as a request does, or as an ERROR (RFC 1350, section 5)
abbrev pub asks_in : List ℕ → Bool
asks_in payload = (opcode_of payload == 1) || (opcode_of payload == 2)

abbrev pub ends_in : List ℕ → Bool
ends_in payload = opcode_of payload == 5

-- what is asked of the datagrams of the transfer, to see what of them is kept
abbrev pub tap_tests : TapSides → Tests TapDatagram
tap_tests s = record {
  asks = λ d. same_peer d.source s.client && asks_in d.payload;
  answers = λ d. same_peer d.source s.server;
  ends = λ e d. same_peer d.source (side_of s e) && ends_in d.payload;
}

-- something has passed from the one side to the other
abbrev pub has_gone : PeerId → PeerId → List TapDatagram → Bool
has_gone from to earlier = list_any (λ d. same_peer d.source from && same_peer d.destination to) earlier

-- what an end sends to neither the other end nor where it asks: to where only strays came from, nothing but an answer
abbrev pub route_astray : List TapDatagram → TapDatagram → TapRoute
route_astray earlier d = if has_gone d.destination d.source earlier then (if ends_in d.payload then StrayAnswer else NoStrayAnswer) else WrongPort

abbrev pub route_from_client : TapSides → List TapDatagram → TapDatagram → TapRoute
route_from_client s earlier d =
    if asks_in d.payload then (if same_peer d.destination s.asked then Request else WrongPort)
    else if same_peer d.destination s.server then (if has_gone s.server s.client earlier then FromClient else WrongPort)
    else route_astray earlier d

abbrev pub route_from_server : TapSides → List TapDatagram → TapDatagram → TapRoute
route_from_server s earlier d = if same_peer d.destination s.client then FromServer else route_astray earlier d

-- where the server goes on from the service port, a request is no stray: it would be another client's
abbrev pub route_from_elsewhere : TapSides → TapDatagram → TapRoute
route_from_elsewhere s d =
    if same_peer d.destination s.client then Stray
    else if same_peer d.destination s.server then (if (s.server.port == s.asked.port) && asks_in d.payload then ForeignPort else Stray)
    else ForeignPort

abbrev pub tap_route : TapSides → List TapDatagram → TapDatagram → TapRoute
tap_route s earlier d =
    if same_peer d.source s.client then route_from_client s earlier d
    else if same_peer d.source s.server then route_from_server s earlier d
    else route_from_elsewhere s d

abbrev pub is_passing : TapRoute → Bool
is_passing Request = true
is_passing FromClient = true
is_passing FromServer = true
is_passing _ = false

-- the datagrams of the transfer, without strays and what answers them
abbrev pub transfer_between : TapSides → List TapDatagram → List TapDatagram
transfer_between s [] = []
transfer_between s (d ∷ earlier) = if is_passing (tap_route s earlier d) then d ∷ transfer_between s earlier else transfer_between s earlier
