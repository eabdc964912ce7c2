-- At either end a list has labels by its routes, where the oldest deed is the client's request.
use Rattle.std.proofs.Common.{◌≡◌, ℕ, Bool, List, [], Option, Some, None, option_map, refl, sym, subst, ◌&&◌}
use Rattle.tftp_packet.specs.{End, Client, Server}
use Rattle.tftp_packet.specs.{Rollover}
use Rattle.tftp_packet.specs.Hosts.{Datagram, Header, PeerId, peer_of, same_peer}
use Rattle.law_model.specs.Model.{Meaning}
use Rattle.law_model.specs.Rules.{goes_out, comes_in, asks, first_of}
use Rattle.law_end.specs.{Division, datagrams_of, view_in, TransferIds, Saying, HaveLabelsBy, HaveLabels, says_of, AreRoutedBy, AreRouted, Starts}
use Rattle.law_end.proofs.Division.Routed.{named_is}
use Rattle.law_end.proofs.Division.ClientLabels.{ClientIds, parted_at_client}
use Rattle.law_end.proofs.Division.ServerLabels.{ServerIds, parted_at_server}

-- ---- the ids of a list, and any where they are unknown

abbrev or_else : {X : Type 0} → X → Option X → X
or_else x None = x
or_else x (Some y) = y

abbrev some_peer : PeerId
some_peer = record { host = []; port = 0 }

or_is : {X : Type 0} (x : X) (f : Datagram → X) (o : Option Datagram) (d : Datagram) → o ≡ Some d → f d ≡ or_else x (option_map f o)
or_is x f o d is = rw is refl

abbrev local_of : Datagram → ℕ
local_of d = d.local

abbrev host_of : Datagram → List ℕ
host_of d = d.host

module _ (service : ℕ) (rollover : Option Rollover) (says : Saying) (division : Division) where
  abbrev all : List Datagram
  all = datagrams_of division

  abbrev as_client : Header
  as_client = record { named = Client; service = service; rollover = rollover }

  abbrev as_server : Header
  as_server = record { named = Server; service = service; rollover = rollover }

  abbrev client_ids : TransferIds
  client_ids = record {
    own = or_else 0 (option_map local_of (first_of (asks as_client) all));
    peer = or_else some_peer (option_map peer_of (first_of comes_in all));
    asked = or_else [] (option_map host_of (first_of (asks as_client) all));
  }

  client_ids_are : ClientIds service rollover says client_ids all
  client_ids_are = record {
    own = λ first e. or_is 0 local_of (first_of (asks as_client) all) first e;
    peer = λ x e. or_is some_peer peer_of (first_of comes_in all) x e;
    asked = λ first e. or_is [] host_of (first_of (asks as_client) all) first e;
  }

  abbrev to : Datagram → Datagram → Bool
  to first a = goes_out a && same_peer (peer_of a) (peer_of first)

  abbrev own_by : Option Datagram → ℕ
  own_by None = 0
  own_by (Some first) = or_else 0 (option_map local_of (first_of (to first) all))

  abbrev server_ids : TransferIds
  server_ids = record { own = own_by (first_of (asks as_server) all); peer = or_else some_peer (option_map peer_of (first_of (asks as_server) all)); asked = [] }

  server_ids_are : ServerIds service rollover says server_ids all
  server_ids_are = record {
    peer = λ first e. or_is some_peer peer_of (first_of (asks as_server) all) first e;
    own = λ first x e t. subst (λ o. x.local ≡ own_by o) (sym e) (or_is 0 local_of (first_of (to first) all) x t);
  }

-- whatever says the packets
pub parted : (h : Header) (says : Saying) (division : Division) → AreRoutedBy h says division → Starts h.named (view_in division) → (ids : TransferIds) × HaveLabelsBy h says ids division
parted h says division routed starts = by h.named refl where
  by : (e : End) → h.named ≡ e → (ids : TransferIds) × HaveLabelsBy h says ids division
  by Client is = subst (λ (x : Header). (ids : TransferIds) × HaveLabelsBy x says ids division) (sym (named_is h Client is)) (
    client_ids h.service h.rollover says division,
    parted_at_client h.service h.rollover says (client_ids h.service h.rollover says division) division (subst (λ (x : Header). AreRoutedBy x says division) (named_is h Client is) routed) (subst (λ x. Starts x (view_in division)) is starts) (client_ids_are h.service h.rollover says division),
  )
  by Server is = subst (λ (x : Header). (ids : TransferIds) × HaveLabelsBy x says ids division) (sym (named_is h Server is)) (
    server_ids h.service h.rollover says division,
    parted_at_server h.service h.rollover says (server_ids h.service h.rollover says division) division (subst (λ (x : Header). AreRoutedBy x says division) (named_is h Server is) routed) (subst (λ x. Starts x (view_in division)) is starts) (server_ids_are h.service h.rollover says division),
  )

-- as a meaning says them
pub parts_of : (h : Header) (m : Meaning) (wire : List ℕ) (division : Division) → AreRouted h m wire division → Starts h.named (view_in division) → (ids : TransferIds) × HaveLabels h m wire ids division
parts_of h m wire division routed starts = parted h (says_of m wire) division routed starts
