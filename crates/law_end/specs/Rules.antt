-- The rules that a datagram may break after those that have passed, in the order in which they are tried. The list
-- `earlier` has the datagrams that have passed at the named end, the newest first.
use Rattle.std.specs.Prelude.{◌≡◌, ℕ, List, None, true}
use Rattle.tftp_packet.specs.{IsFirst, Message, RequestParts, Spells, FirstFault}
use Rattle.tftp_packet.specs.Hosts.{Datagram, Header}
use Rattle.law_model.specs.Rules.{Route, asks, first_of, route_of, is_of_transfer, transfer_of, PortBroken, port_number, end_number}
use Rattle.tftp_nego.specs.{agreement_number}
use Rattle.law_end.specs.Replies.{FirstAsked}
use Rattle.law_end.specs.MessageRules.{MessageBreaks}
use Rattle.law_end.specs.declared.rule.Rule.{Rule}
use Rattle.law_end.specs.declared.rule.Rule.TheVariants.{Port, NoRequest, Malformed, WrongKind, AfterError, RequestChanged, RequestAfterStart, ReplyChanged, Agreement, OackChanged, OackAfterStart, Block}

-- the numbers of the rules, in the order in which they are tried
abbrev pub number_of : Rule → ℕ
number_of (Port rule) = port_number rule
number_of NoRequest = 4
number_of (Malformed fault) = 5
number_of WrongKind = 6
number_of AfterError = 7
number_of RequestChanged = 8
number_of RequestAfterStart = 9
number_of ReplyChanged = 10
number_of (Agreement rule) = agreement_number rule
number_of OackChanged = 16
number_of OackAfterStart = 17
number_of (Block rule) = end_number rule

-- the datagram has one of the transfer's routes, and spells this
pub record Says (h : Header) (earlier : List Datagram) (d : Datagram) (m : Message) : Type 0 where
  pub routed : is_of_transfer (route_of h earlier d) ≡ true
  pub spells : Spells d.payload m

-- it says a message that breaks the rule, in a transfer of which the first request is known
pub record MessageBroken (h : Header) (earlier : List Datagram) (d : Datagram) (rule : Rule) : Type 0 where
  pub message : Message
  pub says : Says h earlier d message
  pub asked : RequestParts
  pub first : FirstAsked h earlier asked
  pub breaks : MessageBreaks h asked (transfer_of h earlier) d.dir message rule

-- when a datagram breaks each rule
abbrev pub Broken : Header → List Datagram → Datagram → Rule → Type 0
-- its ports or its host are not the transfer's (RFC 1350, section 4)
Broken h earlier d (Port rule) = PortBroken h earlier d rule
-- the first datagram is no request (RFC 1350, section 4)
Broken h earlier d NoRequest = (first_of (asks h) earlier ≡ None) × (route_of h earlier d ≡ Route.Peer)
-- it is no packet (RFC 1350, section 5; RFC 2347)
Broken h earlier d (Malformed fault) = (is_of_transfer (route_of h earlier d) ≡ true) × FirstFault d.payload fault
-- the message that it says breaks any other rule
Broken h earlier d rule = MessageBroken h earlier d rule

-- the first rule in their order that the datagram breaks
abbrev pub FirstBroken : Header → List Datagram → Datagram → Rule → Type 0
FirstBroken h earlier d rule = IsFirst number_of (Broken h earlier d) rule
