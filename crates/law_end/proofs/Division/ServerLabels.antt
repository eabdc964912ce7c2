-- At the server a list has labels by its routes.
use Rattle.std.proofs.Common.{◌≡◌, ◌⊎◌, ℕ, Bool, List, [], ◌∷◌, Option, Some, option_map, Any, inl, inr, refl, sym, ◌∙◌, ◌&&◌, ◌==◌}
use Rattle.std.proofs.lemmas.Bool.{false≢true, and_from, and_parts, eqb-true, eq-eqb}
use Rattle.tftp_packet.specs.{Server}
use Rattle.tftp_packet.specs.{Rollover}
use Rattle.tftp_packet.specs.Hosts.{Datagram, Header, peer_of, same_peer}
use Rattle.tftp_packet.specs.{In, Out}
use Rattle.law_model.specs.Model.{Req, Oack, Data, Ack, Deed, Sent, Took, Error}
use Rattle.law_model.specs.Rules.{Route, goes_out, comes_in, begins_request, asks, first_of, route_at_server, route_of}
use Rattle.law_end.specs.Dress.{StrayAnswer}
use Rattle.law_end.specs.{Label, Main, Stray, Division, datagrams_of, view_in, dir_of, packet_of, TransferIds, Saying, Carries, ComesAstray, AnswersStray, HasLabelBy, HaveLabelsBy, packet_route, label_route, SaysAsBy, AreRoutedBy, Stands, Starts}
use Rattle.law_end.proofs.FirstBroken.FirstRequests.{asks_is, first_stays}
use Rattle.law_end.proofs.Division.RouteTests.{two_ways, same_is}
use Rattle.law_end.proofs.Division.RoutesBack.{dir_out, dir_in, this_one, first_any, map_some, map_none, begins_byte, s_request, s_peer, s_stray, s_answer, no_stray_before}
use Rattle.law_end.proofs.Division.Unasked.{none_view, stray_from}
use Rattle.law_end.proofs.Division.Placing.{one, starts_before, WentOut, any_main_out}

-- ---- at the server

module _ (service : ℕ) (rollover : Option Rollover) (says : Saying) (ids : TransferIds) where
  abbrev sh : Header
  sh = record { named = Server; service = service; rollover = rollover }

  abbrev to_client : Datagram → Datagram → Bool
  to_client first a = goes_out a && same_peer (peer_of a) (peer_of first)

  -- the ids are those of the list
  pub record ServerIds (ds : List Datagram) : Type 0 where
    pub peer : (first : Datagram) → first_of (asks sh) ds ≡ Some first → peer_of first ≡ ids.peer
    pub own : (first x : Datagram) → first_of (asks sh) ds ≡ Some first → first_of (to_client first) ds ≡ Some x → x.local ≡ ids.own

  server_ids_before : (d : Datagram) (ds : List Datagram) → ServerIds (d ∷ ds) → ServerIds ds
  server_ids_before d ds are = record {
    peer = λ first e. are.peer first (first_stays (asks sh) d first ds e);
    own = λ first x e t. are.own first x (first_stays (asks sh) d first ds e) (first_stays (to_client first) d x ds t);
  }

  s_came : (d : Datagram) (label : Label) (earlier : Division) → HasLabelBy sh says ids earlier d label → Starts Server (view_in (one d label earlier)) → d.dir ≡ In → (peer_of d ≡ ids.peer → ⊥) → label ≡ Stray
  s_came d Stray earlier p starts way apart = refl
  s_came d StrayAnswer earlier p starts way apart = let e : Out ≡ In = sym p.dir ∙ way in absurd (cc)
  s_came d (Main deed) earlier p starts way apart = absurd (apart p.client)

  module _ (earlier : Division) (labels : HaveLabelsBy sh says ids earlier) (routed : AreRoutedBy sh says earlier) (starts : Starts Server (view_in earlier)) (d : Datagram) (are : ServerIds (d ∷ datagrams_of earlier)) where
    abbrev fs : List Datagram
    fs = datagrams_of earlier

    abbrev port : Datagram → Option ℕ
    port first = option_map (λ (a : Datagram). a.local) (first_of (to_client first) fs)

    s_ids : ServerIds fs
    s_ids = server_ids_before d fs are

    s_after : (first : Datagram) (r : Route) → first_of (asks sh) fs ≡ Some first → route_of sh fs d ≡ r → route_at_server sh (peer_of first) (port first) fs d ≡ r
    s_after first r some is = let e : route_of sh fs d ≡ route_at_server sh (peer_of first) (port first) fs d = rw some refl in sym e ∙ is

    s_client : (first : Datagram) → first_of (asks sh) fs ≡ Some first → peer_of d ≡ peer_of first → peer_of d ≡ ids.peer
    s_client first some is = is ∙ s_ids.peer first some

    s_port : (first : Datagram) → first_of (asks sh) fs ≡ Some first → (own : ℕ) → port first ≡ Some own → (own ≡ ids.own) × Any WentOut earlier
    s_port first some own is =
        let (x, was, at) = map_some (λ (a : Datagram). a.local) (first_of (to_client first) fs) own is in (
          sym at ∙ s_ids.own first x some was,
          first_any (to_client first) WentOut (λ q t. dir_out q.datagram (and_parts (goes_out q.datagram) (same_peer (peer_of q.datagram) (peer_of first)) t).0) earlier x was,
        )

    s_back_request : route_of sh fs d ≡ Route.Request → (peer_of d ≡ ids.peer) × (d.local ≡ service)
    s_back_request is = elim (two_ways (first_of (asks sh) fs)) [
      | inl none ↦
          let t = asks_is sh fs d none is in
          (are.peer d (this_one (asks sh) d fs none t), eqb-true d.local service (and_parts (comes_in d && begins_request d) (d.local == service) t).1)
      | inr some ↦
          let a = s_request sh fs d (peer_of some.0) (port some.0) (s_after some.0 Route.Request some.1 is) in
          (s_client some.0 some.1 a.1, a.0)
    ]

    s_back_peer : (deed : Deed) → (deed ≡ Took Req → ⊥) → Stands Server (view_in earlier) deed → route_of sh fs d ≡ Route.Peer
        → (peer_of d ≡ ids.peer) × (d.local ≡ ids.own) × ((d.dir ≡ Out) ⊎ Any WentOut earlier)
    s_back_peer deed other stands is = elim (two_ways (first_of (asks sh) fs)) [
      | inl none ↦ absurd (other (stands.first (none_view sh says earlier routed starts none)))
      | inr some ↦
          let a = s_peer sh fs d (peer_of some.0) (port some.0) (s_after some.0 Route.Peer some.1 is) in
          let peer = s_client some.0 some.1 a.0 in
          elim a.1 [
            | inl x ↦ (
              peer,
              are.own some.0 d (first_stays (asks sh) d some.0 fs some.1)
                  (this_one (to_client some.0) d fs (map_none (λ (b : Datagram). b.local) (first_of (to_client some.0) fs) x.1) (and_from _ _ x.0 (same_is (peer_of d) (peer_of some.0) a.0))),
              inl (dir_out d x.0),
            )
            | inr x ↦ let b = s_port some.0 some.1 x.0 x.1 in (peer, x.2 ∙ b.0, inr b.1)
          ]
    ]

    s_back_main : (deed : Deed) → d.dir ≡ dir_of deed → says (packet_of deed) d.payload → Stands Server (view_in earlier) deed → route_of sh fs d ≡ packet_route (packet_of deed) → Carries sh says ids earlier d deed
    s_back_main (Took Req) way s stands is = let b = s_back_request is in record { dir = way; client = b.0; server = (b.1, λ e. cc); spells = s }
    s_back_main (Sent Req) way s stands is = absurd (stands.not_back refl)
    s_back_main (Sent Oack) way s stands is = let b = s_back_peer (Sent Oack) (λ e. cc) stands is in record { dir = way; client = b.0; server = (b.1, b.2); spells = s }
    s_back_main (Sent (Data k)) way s stands is = let b = s_back_peer (Sent (Data k)) (λ e. cc) stands is in record { dir = way; client = b.0; server = (b.1, b.2); spells = s }
    s_back_main (Sent (Ack j)) way s stands is = let b = s_back_peer (Sent (Ack j)) (λ e. cc) stands is in record { dir = way; client = b.0; server = (b.1, b.2); spells = s }
    s_back_main (Took Oack) way s stands is = let b = s_back_peer (Took Oack) (λ e. cc) stands is in record { dir = way; client = b.0; server = (b.1, b.2); spells = s }
    s_back_main (Took (Data k)) way s stands is = let b = s_back_peer (Took (Data k)) (λ e. cc) stands is in record { dir = way; client = b.0; server = (b.1, b.2); spells = s }
    s_back_main (Took (Ack j)) way s stands is = let b = s_back_peer (Took (Ack j)) (λ e. cc) stands is in record { dir = way; client = b.0; server = (b.1, b.2); spells = s }
    s_back_main (Sent (Error code text)) way s stands is = let b = s_back_peer (Sent (Error code text)) (λ e. cc) stands is in record { dir = way; client = b.0; server = (b.1, b.2); spells = s }
    s_back_main (Took (Error code text)) way s stands is = let b = s_back_peer (Took (Error code text)) (λ e. cc) stands is in record { dir = way; client = b.0; server = (b.1, b.2); spells = s }

    s_back_stray : route_of sh fs d ≡ Route.Stray → ComesAstray sh ids earlier d
    s_back_stray is = elim (two_ways (first_of (asks sh) fs)) [
      | inl none ↦ absurd (no_stray_before sh fs d Route.Stray (λ e. cc) (λ e. cc) (λ e. cc) none is)
      | inr some ↦
          let (own, at, local, out, apart, no_request) = s_stray sh fs d (peer_of some.0) (port some.0) (s_after some.0 Route.Stray some.1 is) in
          let b = s_port some.0 some.1 own at in
          record {
            dir = dir_in d out;
            here = local ∙ b.0;
            elsewhere = λ e. apart (e ∙ sym (s_ids.peer some.0 some.1));
            after = any_main_out service rollover says ids earlier labels b.1;
            no_request = λ at_server same begins. false≢true (sym no_request ∙ and_from _ _ (begins_byte d begins) (eq-eqb d.local service (local ∙ b.0 ∙ same)));
          }
    ]

    s_back_answer : SaysAsBy says d StrayAnswer → route_of sh fs d ≡ Route.StrayAnswer → AnswersStray sh ids earlier d
    s_back_answer s is = elim (two_ways (first_of (asks sh) fs)) [
      | inl none ↦ absurd (no_stray_before sh fs d Route.StrayAnswer (λ e. cc) (λ e. cc) (λ e. cc) none is)
      | inr some ↦
          let (own, at, (local, out, apart, noted)) = s_answer sh fs d (peer_of some.0) (port some.0) (s_after some.0 Route.StrayAnswer some.1 is) in
          let b = s_port some.0 some.1 own at in
          record {
            dir = dir_out d out;
            here = local ∙ b.0;
            there = stray_from sh says ids s_came earlier labels starts (peer_of d) (λ e. apart (e ∙ sym (s_ids.peer some.0 some.1))) noted;
            spells = s;
          }
    ]

    s_back : (label : Label) → SaysAsBy says d label → Starts Server (view_in (one d label earlier)) → route_of sh fs d ≡ label_route label → HasLabelBy sh says ids earlier d label
    s_back (Main deed) s all is = s_back_main deed s.0 s.1 all.0 is
    s_back Stray s all is = s_back_stray is
    s_back StrayAnswer s all is = s_back_answer s is

  -- each datagram has the label of its route
  pub parted_at_server : (division : Division) → AreRoutedBy sh says division → Starts Server (view_in division) → ServerIds (datagrams_of division) → HaveLabelsBy sh says ids division
  parted_at_server [] routed starts are = tt
  parted_at_server (p ∷ earlier) routed starts are =
      let before = starts_before Server p.datagram p.label earlier starts in
      let labels = parted_at_server earlier routed.2 before (server_ids_before p.datagram (datagrams_of earlier) are) in
      (s_back earlier labels routed.2 before p.datagram are p.label routed.1 starts routed.0, labels)
