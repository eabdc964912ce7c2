-- What `Ports` keeps of the datagrams that have passed: not the datagrams, but the transfer ids that they fixed, and
-- where strays came from (RFC 1350, section 4).
use Rattle.std.specs.Prelude.{◌≡◌, ℕ, ◌&&◌, not, Bool, false, List, [], Option, Some, None, option_map, Result, Ok, Err}
use Rattle.std.specs.List.{list_any}
use Rattle.tftp_packet.specs.{opcode_of, End, Client, Server}
use Rattle.tftp_packet.specs.Hosts.{Datagram, Header, PeerId, peer_of, same_peer}
use Rattle.tftp_packet.specs.{Dir}
use Rattle.law_model.specs.Rules.{Route, comes_in, goes_out, asks, first_of, has_come_from, route_of}
use Rattle.law_model.specs.{PortRule}
use Rattle.tftp_ends.specs.declared.route.Route.{Route as MayPass}
use Rattle.tftp_ends.specs.declared.route.Route.TheVariants as may
use Rattle.tftp_ends.specs.declared.ports.PortFault.{PortFault}
use Rattle.tftp_ends.specs.declared.ports.Seen.{Seen}
use Rattle.tftp_ends.specs.declared.ports.Sides.{Sides}

-- a stray came from there
abbrev pub is_noted : PeerId → List PeerId → Bool
is_noted peer strays = list_any (same_peer peer) strays

-- the two sides of a datagram: a port at the named end, and the other side
abbrev pub sides_of : Datagram → Sides
sides_of d = record { local = d.local; peer = peer_of d }

-- the other side of a datagram that is seen
abbrev pub peer_as : Seen → PeerId
peer_as seen = record { host = seen.host.now; port = seen.remote }

-- the datagram with these numbers and this payload
abbrev pub datagram_as : Seen → List ℕ → Datagram
datagram_as seen payload = record { dir = seen.dir; local = seen.local; host = seen.host.now; remote = seen.remote; payload = payload }

-- where the capture was taken, whatever comes after block 65535; the sides of the first request, and of the first datagram from the server's side; and
-- where strays came from
pub record KnownIds : Type 0 where
  pub header : Header
  pub asked : Option Sides
  pub answered : Option Sides
  pub strays : List PeerId

abbrev pub is_other : PeerId → Option PeerId → Bool
is_other peer None = false
is_other peer (Some other) = same_peer peer other

-- The other end of the transfer, once it is known: the client is who asked, the server is who first answered.
abbrev pub other_end : End → Option Sides → Option Sides → Option PeerId
other_end Client asked answered = option_map (λ s. s.peer) answered
other_end Server asked answered = option_map (λ s. s.peer) asked

-- After the first request, a datagram comes from the server's side: at the client each that comes in, at the server
-- each that goes out to the client.
abbrev pub answers : End → Datagram → Datagram → Bool
answers Client first d = comes_in d
answers Server first d = goes_out d && same_peer (peer_of d) (peer_of first)

abbrev pub first_answer : End → List Datagram → Option Datagram → Option Datagram
first_answer named earlier None = None
first_answer named earlier (Some first) = first_of (answers named first) earlier

-- a peer is noted exactly if something has come in from there, and it is not the other end
abbrev pub NotesStrays : List PeerId → Option PeerId → List Datagram → Type 0
NotesStrays strays other earlier = (peer : PeerId) → is_noted peer strays ≡ (has_come_from peer earlier && not (is_other peer other))

-- These ids and strays are those of the datagrams that have passed. None has passed before the first request, since
-- till then only a request may.
pub record StandsFor (known : KnownIds) (h : Header) (earlier : List Datagram) : Type 0 where
  pub header : known.header ≡ record { named = h.named; service = h.service; rollover = None }
  pub asked : known.asked ≡ option_map sides_of (first_of (asks h) earlier)
  pub answered : known.answered ≡ option_map sides_of (first_answer h.named earlier (first_of (asks h) earlier))
  pub strays : NotesStrays known.strays (other_end h.named known.asked known.answered) earlier
  pub begins : known.asked ≡ None → earlier ≡ []

-- the datagram has these numbers
pub record HasNumbers (d : Datagram) (way : Dir) (own : ℕ) (name : List ℕ) (port code : ℕ) : Type 0 where
  pub dir : d.dir ≡ way
  pub local : d.local ≡ own
  pub host : d.host ≡ name
  pub remote : d.remote ≡ port
  pub opcode : opcode_of d.payload ≡ code

-- the answer that a route has: four routes may pass, and the others are faults
abbrev pub answer_of : Route → Result MayPass PortFault
answer_of Route.Request = Ok may.Request
answer_of Route.Peer = Ok may.Peer
answer_of Route.Stray = Ok may.Stray
answer_of Route.StrayAnswer = Ok may.StrayAnswer
answer_of Route.ForeignPort = Err (PortFault.Broken PortRule.Foreign)
answer_of Route.WrongPort = Err (PortFault.Broken PortRule.Wrong)
answer_of Route.NoStrayAnswer = Err (PortFault.Broken PortRule.BadAnswer)

-- a route that may pass, among all routes
abbrev pub among_all : MayPass → Route
among_all may.Request = Route.Request
among_all may.Peer = Route.Peer
among_all may.Stray = Route.Stray
among_all may.StrayAnswer = Route.StrayAnswer

-- a stray from where none has come
abbrev pub IsNewStray : Header → List Datagram → Datagram → Type 0
IsNewStray h earlier d = (route_of h earlier d ≡ Route.Stray) × (has_come_from (peer_of d) earlier ≡ false)

-- a datagram that is no request, before the first one
abbrev pub HasNoRequest : Header → List Datagram → Datagram → Type 0
HasNoRequest h earlier d = (first_of (asks h) earlier ≡ None) × (route_of h earlier d ≡ Route.Peer)
