-- From the rules to a division: datagrams that break no rule, in accord with a meaning and a wire, divide so that the
-- view is a possible one-sided history.
use Rattle.std.proofs.Common.{◌≡◌, ◌⊎◌, ℕ, Bool, true, false, List, [], ◌∷◌, Contains, Option, Some, None, inl, inr, refl, sym, subst, ap, ◌∙◌, if◌then◌else◌, not, ◌||◌, ◌&&◌, ◌==◌}
use Rattle.std.proofs.lemmas.Bool.{false≢true, and_parts}
use Rattle.tftp_packet.specs.{Message, RequestParts, Spells, End, Client, Server}
use Rattle.tftp_packet.specs.Hosts.{Datagram, Header, PeerId, peer_of, same_peer}
use Rattle.tftp_packet.specs.{Dir, In, Out}
use Rattle.law_model.specs.Model.{Meaning, request_of, Req, Oack, Data, Ack, Error, Deed, Sent, Took, HasSent, HasTaken, IsOneSided}
use Rattle.law_model.specs.Rules.{Route, goes_out, comes_in, begins_request, begins_error, is_from_client, asks, first_of, or_this, has_come_from, route_out, route_at_client, route_to_service, route_at_server, route_after, route_of, is_of_transfer}
use Rattle.law_model.proofs.ModelLemmas.Members.{contains_none}
use Rattle.law_end.proofs.Division.Opening.{none_back}
use Rattle.law_end.proofs.Division.Unasked.{none_view}
use Rattle.law_end.specs.Dress.{StrayAnswer}
use Rattle.law_end.specs.{says_of, Label, Main, Stray, Division, datagrams_of, view_in, Accords, label_route, SaysAs, AreRouted, request_at, Starts, FirstAsked, Rule, IsRead, Passes, OneEnded}
use Rattle.law_end.proofs.FirstBroken.FirstRequests.{begins_asked, asks_is, first_spells}
use Rattle.law_end.proofs.Accord.FirstSpelled.{request_spelled}
use Rattle.law_end.proofs.Soundness.NextDatagram.{Next}
use Rattle.law_end.proofs.Soundness.NextBlock.{of_wire, may_send_data, may_come_data}
use Rattle.law_end.proofs.Soundness.NextAck.{may_send_ack, may_come_ack}
use Rattle.law_end.proofs.Soundness.NextOther.{agreed_now, may_send_oack, may_come_oack, asked_now, may_send_request, may_come_request, may_send_error, may_come_error}
use Rattle.law_end.proofs.Division.RouteTests.{request_begins}
use Rattle.law_end.proofs.Soundness.EarlierList.{requested, before}

-- ---- routes, read backwards

out_peer : (p q e : Bool) → (if p then Route.Peer else if q then (if e then Route.StrayAnswer else Route.NoStrayAnswer) else Route.WrongPort) ≡ Route.Request → ⊥
out_peer true q e is = cc
out_peer false true true is = cc
out_peer false true false is = cc
out_peer false false e is = cc

back_peer : (p : Bool) → (if p then Route.Peer else Route.Stray) ≡ Route.Request → ⊥
back_peer true is = cc
back_peer false is = cc

client_request : (own out begins there : Bool) (one other : Route) → (one ≡ Route.Request → ⊥) → (other ≡ Route.Request → ⊥)
    → (if not own then Route.ForeignPort else if out then (if begins then (if there then Route.Request else Route.WrongPort) else one) else other) ≡ Route.Request → begins ≡ true
client_request true true true there one other a b is = refl
client_request true true false there one other a b is = absurd (a is)
client_request true false begins there one other a b is = absurd (b is)
client_request false out begins there one other a b is = absurd (cc)

client_peer : (own out begins there : Bool) (one other : Route)
    → (if not own then Route.ForeignPort else if out then (if begins then (if there then Route.Request else Route.WrongPort) else one) else other) ≡ Route.Peer → out ≡ true → begins ≡ false
client_peer true true true true one other is went = absurd (cc)
client_peer true true true false one other is went = absurd (cc)
client_peer true true false there one other is went = refl
client_peer true false begins there one other is went = absurd (false≢true went)
client_peer false out begins there one other is went = absurd (cc)

service_request : (here same begins : Bool) → (if not here then Route.ForeignPort else if not same then Route.ForeignPort else if begins then Route.Request else Route.WrongPort) ≡ Route.Request → begins ≡ true
service_request true true true is = refl
service_request true true false is = absurd (cc)
service_request true false begins is = absurd (cc)
service_request false same begins is = absurd (cc)

service_peer : (here same begins : Bool) → (if not here then Route.ForeignPort else if not same then Route.ForeignPort else if begins then Route.Request else Route.WrongPort) ≡ Route.Peer → ⊥
service_peer true true true is = cc
service_peer true true false is = cc
service_peer true false begins is = cc
service_peer false same begins is = cc

first_request : (out same begins : Bool) (service : Route) → (service ≡ Route.Request → begins ≡ true) → (if out then (if same then Route.Peer else Route.WrongPort) else service) ≡ Route.Request → begins ≡ true
first_request true true begins service a is = absurd (cc)
first_request true false begins service a is = absurd (cc)
first_request false same begins service a is = a is

first_peer : (out same begins : Bool) (service : Route) → (service ≡ Route.Peer → ⊥) → (if out then (if same then Route.Peer else Route.WrongPort) else service) ≡ Route.Peer → not out ≡ true → begins ≡ false
first_peer true same begins service a is came = absurd (false≢true came)
first_peer false same begins service a is came = absurd (a is)

server_request : (out own to same begins : Bool) (one service : Route) → (one ≡ Route.Request → ⊥) → (service ≡ Route.Request → begins ≡ true)
    → (if out then (if not own then Route.ForeignPort else one) else if to then service else if same then (if begins then Route.WrongPort else Route.Peer) else Route.Stray) ≡ Route.Request → begins ≡ true
server_request true true to same begins one service a b is = absurd (a is)
server_request true false to same begins one service a b is = absurd (cc)
server_request false own true same begins one service a b is = b is
server_request false own false true true one service a b is = refl
server_request false own false true false one service a b is = absurd (cc)
server_request false own false false begins one service a b is = absurd (cc)

server_peer : (out own to same begins : Bool) (one service : Route) → (service ≡ Route.Peer → ⊥)
    → (if out then (if not own then Route.ForeignPort else one) else if to then service else if same then (if begins then Route.WrongPort else Route.Peer) else Route.Stray) ≡ Route.Peer → not out ≡ true → begins ≡ false
server_peer true own to same begins one service a is came = absurd (false≢true came)
server_peer false own true same begins one service a is came = absurd (a is)
server_peer false own false true true one service a is came = absurd (cc)
server_peer false own false true false one service a is came = refl
server_peer false own false false begins one service a is came = absurd (cc)

module _ (h : Header) (ds : List Datagram) (d : Datagram) where
  at_client_request : (own : ℕ) (asked : PeerId) (o : Option PeerId) → route_at_client own asked o ds d ≡ Route.Request → begins_request d ≡ true
  at_client_request own asked None is = client_request (d.local == own) (goes_out d) (begins_request d) (same_peer (peer_of d) asked) Route.WrongPort Route.Peer (λ e. cc) (λ e. cc) is
  at_client_request own asked (Some p) is = client_request (d.local == own) (goes_out d) (begins_request d) (same_peer (peer_of d) asked) (route_out p ds d) (if same_peer (peer_of d) p then Route.Peer else Route.Stray)
      (out_peer (same_peer (peer_of d) p) (has_come_from (peer_of d) ds) (begins_error d)) (back_peer (same_peer (peer_of d) p)) is

  at_client_peer : (own : ℕ) (asked : PeerId) (o : Option PeerId) → route_at_client own asked o ds d ≡ Route.Peer → goes_out d ≡ true → begins_request d ≡ false
  at_client_peer own asked None is went = client_peer (d.local == own) (goes_out d) (begins_request d) (same_peer (peer_of d) asked) Route.WrongPort Route.Peer is went
  at_client_peer own asked (Some p) is went = client_peer (d.local == own) (goes_out d) (begins_request d) (same_peer (peer_of d) asked) (route_out p ds d) (if same_peer (peer_of d) p then Route.Peer else Route.Stray) is went

  at_server_request : (client : PeerId) (o : Option ℕ) → route_at_server h client o ds d ≡ Route.Request → begins_request d ≡ true
  at_server_request client None is = first_request (goes_out d) (same_peer (peer_of d) client) (begins_request d) (route_to_service h client d) (service_request (d.local == h.service) (same_peer (peer_of d) client) (begins_request d)) is
  at_server_request client (Some own) is = server_request (goes_out d) (d.local == own) (not (d.local == own) || (begins_request d && (d.local == h.service))) (same_peer (peer_of d) client) (begins_request d) (route_out client ds d) (route_to_service h client d)
      (out_peer (same_peer (peer_of d) client) (has_come_from (peer_of d) ds) (begins_error d)) (service_request (d.local == h.service) (same_peer (peer_of d) client) (begins_request d)) is

  at_server_peer : (client : PeerId) (o : Option ℕ) → route_at_server h client o ds d ≡ Route.Peer → comes_in d ≡ true → begins_request d ≡ false
  at_server_peer client None is came = first_peer (goes_out d) (same_peer (peer_of d) client) (begins_request d) (route_to_service h client d) (service_peer (d.local == h.service) (same_peer (peer_of d) client) (begins_request d)) is came
  at_server_peer client (Some own) is came = server_peer (goes_out d) (d.local == own) (not (d.local == own) || (begins_request d && (d.local == h.service))) (same_peer (peer_of d) client) (begins_request d) (route_out client ds d) (route_to_service h client d)
      (service_peer (d.local == h.service) (same_peer (peer_of d) client) (begins_request d)) is came

  after_request : (e : End) (first : Datagram) → route_after e h first ds d ≡ Route.Request → begins_request d ≡ true
  after_request Client first is = at_client_request first.local (peer_of first) _ is
  after_request Server first is = at_server_request (peer_of first) _ is

  after_peer : (e : End) (first : Datagram) → route_after e h first ds d ≡ Route.Peer → is_from_client e d ≡ true → begins_request d ≡ false
  after_peer Client first is from = at_client_peer first.local (peer_of first) _ is from
  after_peer Server first is from = at_server_peer (peer_of first) _ is from

  after_is : (first : Datagram) → first_of (asks h) ds ≡ Some first → route_of h ds d ≡ route_after h.named h first ds d
  after_is first some = rw some refl

main_route : (r : Route) → is_of_transfer r ≡ true → (r ≡ Route.Request) ⊎ (r ≡ Route.Peer)
main_route Route.Request is = inl refl
main_route Route.Peer is = inr refl
main_route _ is = absurd (cc)

-- what comes from the client's side
out_from : (e : End) (d : Datagram) → e ≡ Client → d.dir ≡ Out → is_from_client e d ≡ true
out_from Client d is way = rw way refl
out_from Server d is way = absurd (cc)

in_from : (e : End) (d : Datagram) → e ≡ Server → d.dir ≡ In → is_from_client e d ≡ true
in_from Client d is way = absurd (cc)
in_from Server d is way = rw way refl

from_client : (e : End) (d : Datagram) (dir : Dir) → d.dir ≡ dir → is_from_client e d ≡ true → ((e ≡ Client) × (dir ≡ Out)) ⊎ ((e ≡ Server) × (dir ≡ In))
from_client Client d Out way from = inl (refl, refl)
from_client Client d In way from = let e : is_from_client Client d ≡ false = rw way refl in absurd (false≢true (sym e ∙ from))
from_client Server d In way from = inr (refl, refl)
from_client Server d Out way from = let e : is_from_client Server d ≡ false = rw way refl in absurd (false≢true (sym e ∙ from))

-- ---- one datagram more

module _ (h : Header) (m : Meaning) (wire : List ℕ) where
  module _ (division : Division) (routed : AreRouted h m wire division) (own : IsOneSided m wire h.named (view_in division)) (starts : Starts h.named (view_in division)) (lawful : OneEnded h (datagrams_of division))
      (d : Datagram) (passes : Passes h (datagrams_of division) d) (acc : Accords h m wire (d ∷ datagrams_of division)) where
    abbrev ds : List Datagram
    ds = datagrams_of division

    -- its label, and what follows of it
    abbrev Placing : Type 0
    Placing = (label : Label) × (route_of h ds d ≡ label_route label) × SaysAs m wire d label × IsOneSided m wire h.named (view_in (record { datagram = d; label = label } ∷ division))

    -- and the view starts with the request
    abbrev Started : Type 0
    Started = (label : Label) × (route_of h ds d ≡ label_route label) × SaysAs m wire d label × IsOneSided m wire h.named (view_in (record { datagram = d; label = label } ∷ division))
        × Starts h.named (view_in (record { datagram = d; label = label } ∷ division))

    stands : (deed : Deed) → (view_in division ≡ [] → deed ≡ request_at h.named) → IsOneSided m wire h.named (deed ∷ view_in division) → Starts h.named (deed ∷ view_in division)
    stands deed is all = (record { first = is; not_back = λ e. none_back m wire h.named (view_in division) (subst (λ x. IsOneSided m wire h.named (x ∷ view_in division)) e all) }, starts)

    started : (view_in division ≡ [] → ⊥) → Placing → Started
    started some (Main deed, is, says, all) = (Main deed, is, says, all, stands deed (λ e. absurd (some e)) all)
    started some (Stray, is, says, all) = (Stray, is, says, all, starts)
    started some (StrayAnswer, is, says, all) = (StrayAnswer, is, says, all, starts)

    module _ (main : is_of_transfer (route_of h ds d) ≡ true) (was : Datagram) (some : first_of (asks h) ds ≡ Some was) where
      first : FirstAsked h ds (request_of m)
      first = (was, some, request_spelled h m wire division routed was some)

      asks_for : HasSent (view_in division) Req ⊎ HasTaken (view_in division) Req
      asks_for = requested h m wire division routed was some

      next : Next h m wire division d
      next = record { routed = routed; own = own; starts = starts; lawful = lawful; passes = passes; main = main; first = first; requested = asks_for; acc = acc }

      -- only a request has a request's route
      other_route : (x : Message) → Spells d.payload x → ((r : RequestParts) → x ≡ Message.Request r → ⊥) → route_of h ds d ≡ Route.Peer
      other_route x s other = elim (main_route (route_of h ds d) main) [
        | inr peer ↦ peer
        | inl request ↦
            let begins = after_request h ds d h.named was (sym (after_is h ds d was some) ∙ request) in
            let (r, is) = begins_asked d.payload x s begins in
            absurd (other r is)
      ]

      request_route : (r : RequestParts) → Spells d.payload (Message.Request r) → is_from_client h.named d ≡ true → route_of h ds d ≡ Route.Request
      request_route r s from = elim (main_route (route_of h ds d) main) [
        | inl request ↦ request
        | inr peer ↦ absurd (false≢true (sym (after_peer h ds d h.named was (sym (after_is h ds d was some) ∙ peer) from) ∙ request_begins d.payload r s))
      ]

      place : (dir : Dir) → d.dir ≡ dir → (x : Message) → Spells d.payload x → Placing
      place Out way (Message.Request r) s =
          let may = may_send_request next r s way in
          (Main (Sent Req), request_route r s (out_from h.named d may.client way), (way, subst (λ q. Spells d.payload (Message.Request q)) (asked_now next r s) s), (may, own))
      place In way (Message.Request r) s =
          let may = may_come_request next r s way in
          (Main (Took Req), request_route r s (in_from h.named d may way), (way, subst (λ q. Spells d.payload (Message.Request q)) (asked_now next r s) s), (may, own))
      place Out way (Message.Oack o) s = (
        Main (Sent Oack),
        other_route (Message.Oack o) s (λ r e. cc),
        (way, subst (λ q. Spells d.payload (Message.Oack q)) (sym (agreed_now next o s).0) s),
        (may_send_oack next o s way, own),
      )
      place In way (Message.Oack o) s = (
        Main (Took Oack),
        other_route (Message.Oack o) s (λ r e. cc),
        (way, subst (λ q. Spells d.payload (Message.Oack q)) (sym (agreed_now next o s).0) s),
        (may_come_oack next o s way, own),
      )
      place Out way (Message.Data k bytes) s = (
        Main (Sent (Data k)),
        other_route (Message.Data k bytes) s (λ r e. cc),
        (way, subst (λ q. Spells d.payload (Message.Data k q)) (of_wire next k bytes s).1 s),
        (may_send_data next k bytes s way, own),
      )
      place In way (Message.Data k bytes) s = (
        Main (Took (Data k)),
        other_route (Message.Data k bytes) s (λ r e. cc),
        (way, subst (λ q. Spells d.payload (Message.Data k q)) (of_wire next k bytes s).1 s),
        (may_come_data next k bytes s way, own),
      )
      place Out way (Message.Ack j) s =
          (Main (Sent (Ack j)), other_route (Message.Ack j) s (λ r e. cc), (way, s), (may_send_ack next j s way, own))
      place In way (Message.Ack j) s =
          (Main (Took (Ack j)), other_route (Message.Ack j) s (λ r e. cc), (way, s), (may_come_ack next j s way, own))
      place Out way (Message.Error code text) s =
          (Main (Sent (Error code text)), other_route (Message.Error code text) s (λ r e. cc), (way, s), (may_send_error next code text s way, own))
      place In way (Message.Error code text) s =
          (Main (Took (Error code text)), other_route (Message.Error code text) s (λ r e. cc), (way, s), (may_come_error next code text s way, own))

      not_first : view_in division ≡ [] → ⊥
      not_first e = elim asks_for [
        | inl sent ↦ contains_none (Sent Req) (subst (λ v. HasSent v Req) e sent)
        | inr taken ↦ contains_none (Took Req) (subst (λ v. HasTaken v Req) e taken)
      ]

    -- the first request
    module _ (none : first_of (asks h) ds ≡ None) (is : route_of h ds d ≡ Route.Request) (x : Message) (s : Spells d.payload x) where
      asks_now : asks h d ≡ true
      asks_now = asks_is h ds d none is

      now_asked : (r : RequestParts) → Spells d.payload (Message.Request r) → FirstAsked h (d ∷ ds) r
      now_asked r t = (d, ap (λ o. or_this o (asks h d) d) none ∙ ap (λ b. or_this None b d) asks_now, t)

      empty : view_in division ≡ []
      empty = none_view h (says_of m wire) division routed starts none

      no_errors : {P : Type 0} (deed : Deed) → Contains (view_in division) deed → P
      no_errors deed at = absurd (contains_none deed (subst (λ v. Contains v deed) empty at))

      place_first : (dir : Dir) → d.dir ≡ dir → Started
      place_first dir way =
          let (r, is_request) = first_spells h ds d x none is s in
          let t : Spells d.payload (Message.Request r) = subst (Spells d.payload) is_request s in
          let same = acc.asked r (now_asked r t) in
          let says : Spells d.payload (Message.Request (request_of m)) = subst (λ q. Spells d.payload (Message.Request q)) same t in
          let from : is_from_client h.named d ≡ true = (and_parts (is_from_client h.named d) (begins_request d) (and_parts (is_from_client h.named d && begins_request d) _ asks_now).0).0 in
          elim (from_client h.named d dir way from) [
            | inl a ↦
                let all : IsOneSided m wire h.named (Sent Req ∷ view_in division) = (
                  record {
                    no_error = λ code text at. no_errors (Sent (Error code text)) at;
                    client = a.0;
                    no_data = λ k at. no_errors (Sent (Data k)) at;
                    no_ack = λ j at. no_errors (Sent (Ack j)) at;
                  },
                  own,
                ) in
                (Main (Sent Req), is, (way ∙ a.1, says), all, stands (Sent Req) (λ e. sym (ap request_at a.0)) all)
            | inr a ↦ (Main (Took Req), is, (way ∙ a.1, says), (a.0, own), stands (Took Req) (λ e. sym (ap request_at a.0)) (a.0, own))
          ]

    main_by : (o : Option Datagram) → first_of (asks h) ds ≡ o → (r : Route) → route_of h ds d ≡ r → is_of_transfer r ≡ true → (x : Message) → Spells d.payload x → Started
    main_by (Some was) some r is main x s = started (not_first (ap is_of_transfer is ∙ main) was some) (place (ap is_of_transfer is ∙ main) was some d.dir refl x s)
    main_by None none r is main x s = elim (main_route r main) [
      | inl request ↦ place_first none (is ∙ request) x s d.dir refl
      | inr peer ↦ absurd (passes.lawful Rule.NoRequest (none, is ∙ peer))
    ]

    placed : (r : Route) → route_of h ds d ≡ r → IsRead r d → Started
    placed Route.Request is (x, s) = main_by (first_of (asks h) ds) refl Route.Request is refl x s
    placed Route.Peer is (x, s) = main_by (first_of (asks h) ds) refl Route.Peer is refl x s
    placed Route.Stray is read = (Stray, is, tt, own, starts)
    placed Route.StrayAnswer is read = (StrayAnswer, is, read, own, starts)
    placed Route.ForeignPort is read = absurd read
    placed Route.WrongPort is read = absurd read
    placed Route.NoStrayAnswer is read = absurd read

  -- ---- all of them

  abbrev Divides : List Datagram → Type 0
  Divides earlier = (division : Division) × (datagrams_of division ≡ earlier) × AreRouted h m wire division × IsOneSided m wire h.named (view_in division) × Starts h.named (view_in division)

  one_more : (division : Division) → AreRouted h m wire division → IsOneSided m wire h.named (view_in division) → Starts h.named (view_in division) → (earlier : List Datagram) → datagrams_of division ≡ earlier
      → (d : Datagram) → OneEnded h (d ∷ earlier) → Accords h m wire (d ∷ earlier) → Divides (d ∷ earlier)
  one_more division routed own starts earlier same d lawful acc =
      let all : OneEnded h (d ∷ datagrams_of division) = subst (λ ds. OneEnded h (d ∷ ds)) (sym same) lawful in
      let (label, route, says, more, start) = placed division routed own starts all.1 d all.0 (subst (λ ds. Accords h m wire (d ∷ ds)) (sym same) acc) (route_of h (datagrams_of division) d) refl all.0.read in
      (record { datagram = d; label = label } ∷ division, ap (λ ds. d ∷ ds) same, (route, says, routed), more, start)

  pub divides : (earlier : List Datagram) → OneEnded h earlier → Accords h m wire earlier → Divides earlier
  divides [] lawful acc = ([], refl, tt, tt, tt)
  divides (d ∷ earlier) lawful acc =
      let (division, same, routed, own, starts) = divides earlier lawful.1 (before h m wire d earlier acc) in
      one_more division routed own starts earlier same d lawful acc
