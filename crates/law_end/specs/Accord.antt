-- When a meaning and a wire are in accord with what has passed, and how a division follows the routes.
use Rattle.std.specs.Prelude.{◌≡◌, ℕ, ◌≤◌, List, [], ◌∷◌}
use Rattle.tftp_packet.specs.{OptionMap, no_options, Message, RequestParts, End, Client, Server}
use Rattle.tftp_packet.specs.Hosts.{Datagram, Header}
use Rattle.law_model.specs.Model.{Meaning, request_of, blksize_of, block, block_count, MachinePacket, Req, Oack, Data, Ack, Error, Deed, Sent, Took, History}
use Rattle.law_model.specs.Rules.{Route, route_of, transfer_of, SaysUnknownId, HasPassed}
use Rattle.law_end.specs.Fitting.{Fits}
use Rattle.law_end.specs.Dress.{Label, Main, Stray, StrayAnswer, Division, datagrams_of, dir_of, packet_of, Saying, says_of}
use Rattle.law_end.specs.Replies.{FirstAsked, Agrees, Begins, FirstAnswer}

-- the meaning and the wire are those of the first request, of the first answer and of all blocks, as far as they passed
pub record Accords (h : Header) (m : Meaning) (wire : List ℕ) (earlier : List Datagram) : Type 0 where
  pub fits : Fits h.rollover m wire
  pub asked : (asked : RequestParts) → FirstAsked h earlier asked → asked ≡ request_of m
  pub oacked : (options : OptionMap) → FirstAnswer m.side (transfer_of h earlier) (Agrees options) → m.agreed ≡ options
  pub plain : FirstAnswer m.side (transfer_of h earlier) Begins → m.agreed ≡ no_options
  pub blocks : (k : ℕ) (bytes : List ℕ) → HasPassed (Message.Data k bytes) (transfer_of h earlier)
      → (k ≤ block_count (blksize_of m) wire) × (bytes ≡ block (blksize_of m) wire k)

-- the route of a machine's packet
abbrev pub packet_route : MachinePacket → Route
packet_route Req = Route.Request
packet_route Oack = Route.Peer
packet_route (Data k) = Route.Peer
packet_route (Ack j) = Route.Peer
packet_route (Error code text) = Route.Peer

-- the route that a label has
abbrev pub label_route : Label → Route
label_route (Main deed) = packet_route (packet_of deed)
label_route Stray = Route.Stray
label_route StrayAnswer = Route.StrayAnswer

-- what a datagram says as this label
abbrev pub SaysAsBy : Saying → Datagram → Label → Type 0
SaysAsBy says d (Main deed) = (d.dir ≡ dir_of deed) × says (packet_of deed) d.payload
SaysAsBy says d Stray = Unit {0}
SaysAsBy says d StrayAnswer = SaysUnknownId d

-- each datagram has the route of its label after those before it
abbrev pub AreRoutedBy : Header → Saying → Division → Type 0
AreRoutedBy h says [] = Unit {0}
AreRoutedBy h says (p ∷ earlier) =
    (route_of h (datagrams_of earlier) p.datagram ≡ label_route p.label) × SaysAsBy says p.datagram p.label × AreRoutedBy h says earlier

abbrev pub SaysAs : Meaning → List ℕ → Datagram → Label → Type 0
SaysAs m wire d label = SaysAsBy (says_of m wire) d label

abbrev pub AreRouted : Header → Meaning → List ℕ → Division → Type 0
AreRouted h m wire division = AreRoutedBy h (says_of m wire) division

-- the deed that is the client's request, and the one that would be a request of the server
abbrev pub request_at : End → Deed
request_at Client = Sent Req
request_at Server = Took Req

abbrev pub request_back : End → Deed
request_back Client = Took Req
request_back Server = Sent Req

-- the oldest deed is the client's request, and no deed is a request of the server
pub record Stands (e : End) (earlier : History) (deed : Deed) : Type 0 where
  pub first : earlier ≡ [] → deed ≡ request_at e
  pub not_back : deed ≡ request_back e → ⊥

abbrev pub Starts : End → History → Type 0
Starts e [] = Unit {0}
Starts e (deed ∷ earlier) = Stands e earlier deed × Starts e earlier
