-- How the datagrams of a capture carry what an end sent and took (RFC 1350, sections 4 and 5).
use Rattle.std.specs.Prelude.{◌≡◌, ◌≢◌, ℕ, ◌⊎◌, List, [], ◌∷◌, map, reverse, filter_map, Any, Option, Some, None}
use Rattle.tftp_packet.specs.{Message, End, Client, Server, Spells}
use Rattle.tftp_packet.specs.Hosts.{Datagram, Header, PeerId, peer_of}
use Rattle.tftp_packet.specs.{Dir, In, Out}
use Rattle.law_model.specs.Model.{Meaning, MachinePacket, Req, Deed, Sent, Took, History, message_of}
use Rattle.law_end.specs.Sides.{server_port, from_server, BeginsAsRequest}

-- What a datagram is to the transfer: what its end sent or took, a stray from elsewhere, or the answer to one.
pub data Label : Type 0 where
  Main : (deed : Deed) → Label
  Stray : Label
  StrayAnswer : Label

pub record Labelled : Type 0 where
  pub datagram : Datagram
  pub label : Label

-- a capture's datagrams, each with its label, the newest first
abbrev pub Division : Type 0
Division = List Labelled

abbrev pub datagrams_of : Division → List Datagram
datagrams_of division = map (λ p. p.datagram) division

abbrev pub deed_in : Labelled → Option Deed
deed_in p = deed_as p.label where
  deed_as : Label → Option Deed
  deed_as (Main deed) = Some deed
  deed_as Stray = None
  deed_as StrayAnswer = None

-- what the end did, by the main datagrams
abbrev pub view_in : Division → History
view_in division = filter_map deed_in division

-- the transfer ids (RFC 1350, section 4): the port of the end where the capture was taken, and the other side; and the
-- host that a client asks, from which the server need not answer
pub record TransferIds : Type 0 where
  pub own : ℕ
  pub peer : PeerId
  pub asked : List ℕ

-- the client's side of the datagram has the client's id
abbrev pub HasClientId : End → TransferIds → Datagram → Type 0
HasClientId Client ids d = d.local ≡ ids.own
HasClientId Server ids d = peer_of d ≡ ids.peer

-- the server's side has the id that the server chose
abbrev pub HasServerId : End → TransferIds → Datagram → Type 0
HasServerId Client ids d = peer_of d ≡ ids.peer
HasServerId Server ids d = d.local ≡ ids.own

abbrev pub dir_of : Deed → Dir
dir_of (Sent packet) = Out
dir_of (Took packet) = In

abbrev pub packet_of : Deed → MachinePacket
packet_of (Sent packet) = packet
packet_of (Took packet) = packet

abbrev pub IsMain : Label → Type 0
IsMain label = (deed : Deed) × (label ≡ Main deed)

-- A request goes to the service port, and a client sends all of them to one host. All else goes to or comes from where
-- the server answers, and not before a datagram has come from there.
abbrev pub GoesToServer : Header → TransferIds → Division → Datagram → MachinePacket → Type 0
GoesToServer header ids earlier d Req = (server_port header.named d ≡ header.service) × (header.named ≡ Client → d.host ≡ ids.asked)
GoesToServer header ids earlier d _ =
    HasServerId header.named ids d
    × ((d.dir ≡ from_server header.named) ⊎ Any (λ p. p.datagram.dir ≡ from_server header.named) earlier)

-- which payloads say a packet
abbrev pub Saying : Type 1
Saying = MachinePacket → List ℕ → Type 0

-- as this meaning and wire say it
abbrev pub says_of : Meaning → List ℕ → Saying
says_of m wire p payload = Spells payload (message_of m wire p)

pub record Carries (header : Header) (says : Saying) (ids : TransferIds) (earlier : Division) (d : Datagram) (deed : Deed) : Type 0 where
  pub dir : d.dir ≡ dir_of deed
  pub client : HasClientId header.named ids d
  pub server : GoesToServer header ids earlier d (packet_of deed)
  pub spells : says (packet_of deed) d.payload

abbrev pub CarriesDeed : Header → Meaning → List ℕ → TransferIds → Division → Datagram → Deed → Type 0
CarriesDeed header m wire ids earlier d deed = Carries header (says_of m wire) ids earlier d deed

-- Once the server has answered, a datagram that comes from elsewhere is no part of the transfer. Where the server goes
-- on from the service port, a request from elsewhere is no stray: it would be another client's.
pub record ComesAstray (header : Header) (ids : TransferIds) (earlier : Division) (d : Datagram) : Type 0 where
  pub dir : d.dir ≡ In
  pub here : d.local ≡ ids.own
  pub elsewhere : peer_of d ≢ ids.peer
  pub after : Any (λ p. IsMain p.label × (p.datagram.dir ≡ from_server header.named)) earlier
  pub no_request : header.named ≡ Server → ids.own ≡ header.service → BeginsAsRequest d.payload → ⊥

-- A stray may be answered by ERROR 5, "Unknown transfer ID", to where it came from.
pub record AnswersStray (header : Header) (ids : TransferIds) (earlier : Division) (d : Datagram) : Type 0 where
  pub dir : d.dir ≡ Out
  pub here : d.local ≡ ids.own
  pub there : Any (λ p. (p.label ≡ Stray) × (peer_of p.datagram ≡ peer_of d)) earlier
  pub spells : (text : List ℕ) × Spells d.payload (Message.Error 5 text)

abbrev pub HasLabelBy : Header → Saying → TransferIds → Division → Datagram → Label → Type 0
HasLabelBy header says ids earlier d (Main deed) = Carries header says ids earlier d deed
HasLabelBy header says ids earlier d Stray = ComesAstray header ids earlier d
HasLabelBy header says ids earlier d StrayAnswer = AnswersStray header ids earlier d

abbrev pub HaveLabelsBy : Header → Saying → TransferIds → Division → Type 0
HaveLabelsBy header says ids [] = Unit {0}
HaveLabelsBy header says ids (p ∷ earlier) = HasLabelBy header says ids earlier p.datagram p.label × HaveLabelsBy header says ids earlier

abbrev pub HasLabel : Header → Meaning → List ℕ → TransferIds → Division → Datagram → Label → Type 0
HasLabel header m wire ids earlier d label = HasLabelBy header (says_of m wire) ids earlier d label

abbrev pub HaveLabels : Header → Meaning → List ℕ → TransferIds → Division → Type 0
HaveLabels header m wire ids division = HaveLabelsBy header (says_of m wire) ids division

-- The datagrams, the oldest first, can be divided so that the main ones are the view.
pub record IsDressed (header : Header) (m : Meaning) (wire : List ℕ) (view : History) (datagrams : List Datagram) : Type 0 where
  pub ids : TransferIds
  pub division : Division
  pub whole : datagrams_of division ≡ reverse datagrams
  pub main : view_in division ≡ view
  pub labels : HaveLabels header m wire ids division
