-- How a list of datagrams divides, whatever it means. The list `earlier` has the datagrams that have passed, the newest
-- first.
use Rattle.std.specs.Prelude.{◌≡◌, ◌≤◌, List, [], ◌∷◌, Option, Some}
use Rattle.tftp_packet.specs.{Message, RequestParts, Spells}
use Rattle.tftp_packet.specs.Hosts.{Datagram, Header}
use Rattle.law_model.specs.Model.{MachinePacket, Req, Oack, Data, Ack, Error}
use Rattle.law_model.specs.Rules.{Route, route_of}
use Rattle.law_end.specs.Dress.{Division, datagrams_of, view_in, TransferIds, Saying, HaveLabelsBy}
use Rattle.law_end.specs.Accord.{Starts}
use Rattle.law_end.specs.Rules.{Broken, number_of}
use Rattle.law_end.specs.OneEnd.{IsRead}
use Rattle.law_end.specs.declared.rule.Rule.{Rule}

-- the packet that a message can be
abbrev pub packet_in : Message → Option MachinePacket
packet_in (Message.Request asked) = Some Req
packet_in (Message.Oack options) = Some Oack
packet_in (Message.Data k bytes) = Some (Data k)
packet_in (Message.Ack j) = Some (Ack j)
packet_in (Message.Error code text) = Some (Error code text)

-- the payload spells such a packet, of whatever meaning
abbrev pub says_some : Saying
says_some p payload = (m : Message) × Spells payload m × (packet_in m ≡ Some p)

-- The datagram can be read and breaks none of the first five rules, and it is no request on a route of the peer's.
pub record FindsPlace (h : Header) (earlier : List Datagram) (d : Datagram) : Type 0 where
  pub read : IsRead (route_of h earlier d) d
  pub lawful : (rule : Rule) → number_of rule ≤ 5 → Broken h earlier d rule → ⊥
  pub not_back : route_of h earlier d ≡ Route.Peer → (asked : RequestParts) → Spells d.payload (Message.Request asked) → ⊥

abbrev pub FindPlaces : Header → List Datagram → Type 0
FindPlaces h [] = Unit {0}
FindPlaces h (d ∷ earlier) = FindsPlace h earlier d × FindPlaces h earlier

-- The list divides, each main datagram spells a packet, the first of them is the client's request, and none is a request
-- of the server's.
pub record Divides (h : Header) (earlier : List Datagram) : Type 0 where
  pub division : Division
  pub whole : datagrams_of division ≡ earlier
  pub starts : Starts h.named (view_in division)
  pub ids : TransferIds
  pub labels : HaveLabelsBy h says_some ids division
