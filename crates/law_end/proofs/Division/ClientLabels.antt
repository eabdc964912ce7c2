-- At the client a list has labels by its routes.
use Rattle.std.proofs.Common.{◌≡◌, ◌⊎◌, ℕ, true, List, [], ◌∷◌, Option, Some, option_map, Any, inl, inr, refl, sym, ap, ◌∙◌, ◌&&◌, ◌==◌}
use Rattle.std.proofs.lemmas.Bool.{and_parts, eqb-true}
use Rattle.tftp_packet.specs.{Client}
use Rattle.tftp_packet.specs.{Rollover}
use Rattle.tftp_packet.specs.Hosts.{Datagram, Header, PeerId, peer_of}
use Rattle.tftp_packet.specs.{In, Out}
use Rattle.law_model.specs.Model.{Req, Oack, Data, Ack, Deed, Sent, Took, Error}
use Rattle.law_model.specs.Rules.{Route, goes_out, comes_in, begins_request, asks, first_of, route_at_client, route_of}
use Rattle.law_end.specs.Dress.{StrayAnswer}
use Rattle.law_end.specs.{Label, Main, Stray, Division, datagrams_of, view_in, dir_of, packet_of, TransferIds, Saying, Carries, ComesAstray, AnswersStray, HasLabelBy, HaveLabelsBy, packet_route, label_route, SaysAsBy, AreRoutedBy, Stands, Starts}
use Rattle.law_end.proofs.FirstBroken.FirstRequests.{asks_is, first_stays, first_passes}
use Rattle.law_end.proofs.Division.RouteTests.{in_true, two_ways}
use Rattle.law_end.proofs.Division.RoutesBack.{dir_out, dir_in, came_dir, this_one, first_any, map_some, map_none, c_request, c_peer, c_stray, c_answer, no_stray_before}
use Rattle.law_end.proofs.Division.Unasked.{none_view, stray_from}
use Rattle.law_end.proofs.Division.Divided.{any_none, any_cases, any_first, any_later}
use Rattle.law_end.proofs.Division.Placing.{one, starts_before, CameIn, MainIn}

-- ---- at the client

module _ (service : ℕ) (rollover : Option Rollover) (says : Saying) (ids : TransferIds) where
  abbrev ch : Header
  ch = record { named = Client; service = service; rollover = rollover }

  -- the ids are those of the list
  pub record ClientIds (ds : List Datagram) : Type 0 where
    pub own : (first : Datagram) → first_of (asks ch) ds ≡ Some first → first.local ≡ ids.own
    pub peer : (x : Datagram) → first_of comes_in ds ≡ Some x → peer_of x ≡ ids.peer
    pub asked : (first : Datagram) → first_of (asks ch) ds ≡ Some first → first.host ≡ ids.asked

  client_ids_before : (d : Datagram) (ds : List Datagram) → ClientIds (d ∷ ds) → ClientIds ds
  client_ids_before d ds are = record {
    own = λ first e. are.own first (first_stays (asks ch) d first ds e);
    peer = λ x e. are.peer x (first_stays comes_in d x ds e);
    asked = λ first e. are.asked first (first_stays (asks ch) d first ds e);
  }

  asked_there : (d : Datagram) → asks ch d ≡ true → d.remote ≡ service
  asked_there d t = eqb-true d.remote service (and_parts (goes_out d && begins_request d) (d.remote == service) t).1

  c_main_in : (d : Datagram) (label : Label) (earlier : Division) → HasLabelBy ch says ids earlier d label → d.dir ≡ In → Any MainIn (one d label earlier)
  c_main_in d (Main deed) earlier p way = any_first MainIn (record { datagram = d; label = Main deed }) earlier ((deed, refl), way)
  c_main_in d Stray earlier p way = any_later MainIn (record { datagram = d; label = Stray }) earlier p.after
  c_main_in d StrayAnswer earlier p way = let e : Out ≡ In = sym p.dir ∙ way in absurd (cc)

  c_any_main : (division : Division) → HaveLabelsBy ch says ids division → Any CameIn division → Any MainIn division
  c_any_main [] labels any = absurd (any_none CameIn any)
  c_any_main (p ∷ earlier) labels any = elim (any_cases CameIn p earlier any) [
    | inl way ↦ c_main_in p.datagram p.label earlier labels.0 way
    | inr before ↦ any_later MainIn p earlier (c_any_main earlier labels.1 before)
  ]

  c_came : (d : Datagram) (label : Label) (earlier : Division) → HasLabelBy ch says ids earlier d label → Starts Client (view_in (one d label earlier)) → d.dir ≡ In → (peer_of d ≡ ids.peer → ⊥) → label ≡ Stray
  c_came d Stray earlier p starts way apart = refl
  c_came d StrayAnswer earlier p starts way apart = let e : Out ≡ In = sym p.dir ∙ way in absurd (cc)
  c_came d (Main (Sent q)) earlier p starts way apart = let e : Out ≡ In = sym p.dir ∙ way in absurd (cc)
  c_came d (Main (Took Req)) earlier p starts way apart = absurd (starts.0.not_back refl)
  c_came d _ earlier p starts way apart = absurd (apart p.server.0)

  module _ (earlier : Division) (labels : HaveLabelsBy ch says ids earlier) (routed : AreRoutedBy ch says earlier) (starts : Starts Client (view_in earlier)) (d : Datagram) (are : ClientIds (d ∷ datagrams_of earlier)) where
    abbrev es : List Datagram
    es = datagrams_of earlier

    abbrev pub server : Option PeerId
    server = option_map peer_of (first_of comes_in es)

    before_ids : ClientIds es
    before_ids = client_ids_before d es are

    c_after : (first : Datagram) (r : Route) → first_of (asks ch) es ≡ Some first → route_of ch es d ≡ r → route_at_client first.local (peer_of first) server es d ≡ r
    c_after first r some is = let e : route_of ch es d ≡ route_at_client first.local (peer_of first) server es d = rw some refl in sym e ∙ is

    c_own : (first : Datagram) → first_of (asks ch) es ≡ Some first → d.local ≡ first.local → d.local ≡ ids.own
    c_own first some is = is ∙ before_ids.own first some

    c_server : (p : PeerId) → server ≡ Some p → (p ≡ ids.peer) × Any CameIn earlier
    c_server p is =
        let (x, some, at) = map_some peer_of (first_of comes_in es) p is in
        (sym at ∙ before_ids.peer x some, first_any comes_in CameIn (λ q t. came_dir q.datagram t) earlier x some)

    c_back_request : route_of ch es d ≡ Route.Request → (d.local ≡ ids.own) × (d.remote ≡ service) × (d.host ≡ ids.asked)
    c_back_request is = elim (two_ways (first_of (asks ch) es)) [
      | inl none ↦
          let t = asks_is ch es d none is in
          (are.own d (this_one (asks ch) d es none t), asked_there d t, are.asked d (this_one (asks ch) d es none t))
      | inr some ↦
          let a = c_request ch es d some.0.local (peer_of some.0) server (c_after some.0 Route.Request some.1 is) in
          let there = asked_there some.0 (first_passes (asks ch) es some.0 some.1) in
          (c_own some.0 some.1 a.0, ap (λ (p : PeerId). p.port) a.1 ∙ there, ap (λ (p : PeerId). p.host) a.1 ∙ before_ids.asked some.0 some.1)
    ]

    c_back_peer : (deed : Deed) → (deed ≡ Sent Req → ⊥) → Stands Client (view_in earlier) deed → route_of ch es d ≡ Route.Peer → d.dir ≡ dir_of deed
        → (d.local ≡ ids.own) × (peer_of d ≡ ids.peer) × ((d.dir ≡ In) ⊎ Any CameIn earlier)
    c_back_peer deed other stands is way = elim (two_ways (first_of (asks ch) es)) [
      | inl none ↦ absurd (other (stands.first (none_view ch says earlier routed starts none)))
      | inr some ↦
          let a = c_peer ch es d some.0.local (peer_of some.0) server (c_after some.0 Route.Peer some.1 is) in
          let own = c_own some.0 some.1 a.0 in
          elim a.1 [
            | inl x ↦ let came = dir_in d x.0 in (own, are.peer d (this_one comes_in d es (map_none peer_of (first_of comes_in es) x.1) (in_true d came)), inl came)
            | inr x ↦ let b = c_server x.0 x.1 in (own, x.2 ∙ b.0, inr b.1)
          ]
    ]

    c_back_main : (deed : Deed) → d.dir ≡ dir_of deed → says (packet_of deed) d.payload → Stands Client (view_in earlier) deed → route_of ch es d ≡ packet_route (packet_of deed) → Carries ch says ids earlier d deed
    c_back_main (Sent Req) way s stands is = let b = c_back_request is in record { dir = way; client = b.0; server = (b.1, λ e. b.2); spells = s }
    c_back_main (Took Req) way s stands is = absurd (stands.not_back refl)
    c_back_main (Sent Oack) way s stands is = let b = c_back_peer (Sent Oack) (λ e. cc) stands is way in record { dir = way; client = b.0; server = (b.1, b.2); spells = s }
    c_back_main (Sent (Data k)) way s stands is = let b = c_back_peer (Sent (Data k)) (λ e. cc) stands is way in record { dir = way; client = b.0; server = (b.1, b.2); spells = s }
    c_back_main (Sent (Ack j)) way s stands is = let b = c_back_peer (Sent (Ack j)) (λ e. cc) stands is way in record { dir = way; client = b.0; server = (b.1, b.2); spells = s }
    c_back_main (Took Oack) way s stands is = let b = c_back_peer (Took Oack) (λ e. cc) stands is way in record { dir = way; client = b.0; server = (b.1, b.2); spells = s }
    c_back_main (Took (Data k)) way s stands is = let b = c_back_peer (Took (Data k)) (λ e. cc) stands is way in record { dir = way; client = b.0; server = (b.1, b.2); spells = s }
    c_back_main (Took (Ack j)) way s stands is = let b = c_back_peer (Took (Ack j)) (λ e. cc) stands is way in record { dir = way; client = b.0; server = (b.1, b.2); spells = s }
    c_back_main (Sent (Error code text)) way s stands is = let b = c_back_peer (Sent (Error code text)) (λ e. cc) stands is way in record { dir = way; client = b.0; server = (b.1, b.2); spells = s }
    c_back_main (Took (Error code text)) way s stands is = let b = c_back_peer (Took (Error code text)) (λ e. cc) stands is way in record { dir = way; client = b.0; server = (b.1, b.2); spells = s }

    c_back_stray : route_of ch es d ≡ Route.Stray → ComesAstray ch ids earlier d
    c_back_stray is = elim (two_ways (first_of (asks ch) es)) [
      | inl none ↦ absurd (no_stray_before ch es d Route.Stray (λ e. cc) (λ e. cc) (λ e. cc) none is)
      | inr some ↦
          let (own, out, p, at, apart) = c_stray ch es d some.0.local (peer_of some.0) server (c_after some.0 Route.Stray some.1 is) in
          let b = c_server p at in
          record { dir = dir_in d out; here = c_own some.0 some.1 own; elsewhere = λ e. apart (e ∙ sym b.0); after = c_any_main earlier labels b.1; no_request = λ e. absurd (cc) }
    ]

    c_back_answer : SaysAsBy says d StrayAnswer → route_of ch es d ≡ Route.StrayAnswer → AnswersStray ch ids earlier d
    c_back_answer s is = elim (two_ways (first_of (asks ch) es)) [
      | inl none ↦ absurd (no_stray_before ch es d Route.StrayAnswer (λ e. cc) (λ e. cc) (λ e. cc) none is)
      | inr some ↦
          let (p, at, (own, out, apart, noted)) = c_answer ch es d some.0.local (peer_of some.0) server (c_after some.0 Route.StrayAnswer some.1 is) in
          let b = c_server p at in
          record { dir = dir_out d out; here = c_own some.0 some.1 own; there = stray_from ch says ids c_came earlier labels starts (peer_of d) (λ e. apart (e ∙ sym b.0)) noted; spells = s }
    ]

    c_back : (label : Label) → SaysAsBy says d label → Starts Client (view_in (one d label earlier)) → route_of ch es d ≡ label_route label → HasLabelBy ch says ids earlier d label
    c_back (Main deed) s all is = c_back_main deed s.0 s.1 all.0 is
    c_back Stray s all is = c_back_stray is
    c_back StrayAnswer s all is = c_back_answer s is

  -- each datagram has the label of its route
  pub parted_at_client : (division : Division) → AreRoutedBy ch says division → Starts Client (view_in division) → ClientIds (datagrams_of division) → HaveLabelsBy ch says ids division
  parted_at_client [] routed starts are = tt
  parted_at_client (p ∷ earlier) routed starts are =
      let before = starts_before Client p.datagram p.label earlier starts in
      let labels = parted_at_client earlier routed.2 before (client_ids_before p.datagram (datagrams_of earlier) are) in
      (c_back earlier labels routed.2 before p.datagram are p.label routed.1 starts routed.0, labels)
