-- At the client the labels of a division have their routes.
use Rattle.std.proofs.Common.{◌≡◌, ◌⊎◌, ℕ, true, false, List, [], ◌∷◌, Some, None, Any, inl, inr, refl, sym, subst, ◌∙◌, ◌==◌, ◌&&◌, Option}
use Rattle.std.proofs.lemmas.Bool.{false≢true, and_from, and_parts, eqb-true}
use Rattle.tftp_packet.specs.{Client}
use Rattle.tftp_packet.specs.{Rollover}
use Rattle.tftp_packet.specs.Hosts.{Datagram, Header, peer_of, same_peer}
use Rattle.tftp_packet.specs.{In, Out}
use Rattle.law_model.specs.Model.{MachinePacket, Req, Oack, Data, Ack, Deed, Sent, Took, History, Error}
use Rattle.law_model.specs.Rules.{Route, goes_out, comes_in, begins_request, begins_error, asks, first_of, has_come_from, route_of}
use Rattle.law_end.specs.Dress.{StrayAnswer}
use Rattle.law_end.specs.{Label, Main, Stray, Labelled, Division, datagrams_of, view_in, packet_of, TransferIds, Saying, Carries, ComesAstray, AnswersStray, HasLabelBy, HaveLabelsBy, HasServerId, packet_route, label_route, SaysAsBy, AreRoutedBy, Starts}
use Rattle.law_end.proofs.Division.RouteTests.{same_true, out_true, in_false, in_true, out_false, error_begins, two_ways, now, same_is, other_peer, IsTold}
use Rattle.law_end.proofs.Division.Divided.{any_none, any_cases, any_first, any_later}
use Rattle.law_end.proofs.FirstBroken.FirstRequests.{or_some, first_stays, first_passes}
use Rattle.law_end.proofs.Division.Placing.{starts_before, CameIn, MainIn, Asked, asked_some, stray_there, view_some}

-- ---- routes at the client

module _ (service : ℕ) (rollover : Option Rollover) where
  abbrev at : Header
  at = record { named = Client; service = service; rollover = rollover }

  first_request : (ds : List Datagram) (d : Datagram) → first_of (asks at) ds ≡ None → goes_out d ≡ true → begins_request d ≡ true → (d.remote == service) ≡ true → route_of at ds d ≡ Route.Request
  first_request ds d none out begins there = rw (none, out, begins, there) refl

  later_request : (ds : List Datagram) (d first : Datagram) → first_of (asks at) ds ≡ Some first → (d.local == first.local) ≡ true → goes_out d ≡ true → begins_request d ≡ true
      → same_peer (peer_of d) (peer_of first) ≡ true → route_of at ds d ≡ Route.Request
  later_request ds d first some own out begins there = rw (some, own, out, begins, there) refl

  out_peer : (ds : List Datagram) (d first other : Datagram) → first_of (asks at) ds ≡ Some first → first_of comes_in ds ≡ Some other → (d.local == first.local) ≡ true → goes_out d ≡ true → begins_request d ≡ false
      → same_peer (peer_of d) (peer_of other) ≡ true → route_of at ds d ≡ Route.Peer
  out_peer ds d first other some came own out begins there = rw (some, came, own, out, begins, there) refl

  in_first : (ds : List Datagram) (d first : Datagram) → first_of (asks at) ds ≡ Some first → first_of comes_in ds ≡ None → (d.local == first.local) ≡ true → goes_out d ≡ false → route_of at ds d ≡ Route.Peer
  in_first ds d first some came own out = rw (some, came, own, out) refl

  in_peer : (ds : List Datagram) (d first other : Datagram) → first_of (asks at) ds ≡ Some first → first_of comes_in ds ≡ Some other → (d.local == first.local) ≡ true → goes_out d ≡ false → same_peer (peer_of d) (peer_of other) ≡ true
      → route_of at ds d ≡ Route.Peer
  in_peer ds d first other some came own out there = rw (some, came, own, out, there) refl

  in_stray : (ds : List Datagram) (d first other : Datagram) → first_of (asks at) ds ≡ Some first → first_of comes_in ds ≡ Some other → (d.local == first.local) ≡ true → goes_out d ≡ false → same_peer (peer_of d) (peer_of other) ≡ false
      → route_of at ds d ≡ Route.Stray
  in_stray ds d first other some came own out there = rw (some, came, own, out, there) refl

  out_answer : (ds : List Datagram) (d first other : Datagram) → first_of (asks at) ds ≡ Some first → first_of comes_in ds ≡ Some other → (d.local == first.local) ≡ true → goes_out d ≡ true → begins_request d ≡ false
      → same_peer (peer_of d) (peer_of other) ≡ false → has_come_from (peer_of d) ds ≡ true → begins_error d ≡ true → route_of at ds d ≡ Route.StrayAnswer
  out_answer ds d first other some came own out begins there noted error = rw (some, came, own, out, begins, there, noted, error) refl

-- ---- the labels at the client

module _ (service : ℕ) (rollover : Option Rollover) (says : Saying) (told : IsTold says) (ids : TransferIds) where
  abbrev pub here : Header
  here = at service rollover

  own_port : (earlier : Division) (d : Datagram) (label : Label) → HasLabelBy here says ids earlier d label → d.local ≡ ids.own
  own_port earlier d (Main deed) p = p.client
  own_port earlier d Stray p = p.here
  own_port earlier d StrayAnswer p = p.here

  first_own : (division : Division) → HaveLabelsBy here says ids division → (x : Datagram) → first_of (asks here) (datagrams_of division) ≡ Some x → x.local ≡ ids.own
  first_own [] labels x e = absurd (cc)
  first_own (p ∷ earlier) labels x e = elim (or_some (first_of (asks here) (datagrams_of earlier)) (asks here p.datagram) p.datagram x e) [
    | inl before ↦ first_own earlier labels.1 x before
    | inr this ↦ subst (λ (d : Datagram). d.local ≡ ids.own) this.2 (own_port earlier p.datagram p.label labels.0)
  ]

  -- what asks is the client's request
  asks_host : (earlier : Division) (d : Datagram) (label : Label) → HasLabelBy here says ids earlier d label → goes_out d ≡ true → begins_request d ≡ true → d.host ≡ ids.asked
  asks_host earlier d (Main (Sent Req)) p out begins = p.server.1 refl
  asks_host earlier d (Main (Sent Oack)) p out begins = absurd (false≢true (sym (told.other Oack (λ e. cc) d.payload p.spells) ∙ begins))
  asks_host earlier d (Main (Sent (Data k))) p out begins = absurd (false≢true (sym (told.other (Data k) (λ e. cc) d.payload p.spells) ∙ begins))
  asks_host earlier d (Main (Sent (Ack j))) p out begins = absurd (false≢true (sym (told.other (Ack j) (λ e. cc) d.payload p.spells) ∙ begins))
  asks_host earlier d (Main (Sent (Error code text))) p out begins = absurd (false≢true (sym (told.other (Error code text) (λ e. cc) d.payload p.spells) ∙ begins))
  asks_host earlier d StrayAnswer p out begins = absurd (false≢true (sym (error_begins d 5 p.spells.0 p.spells.1).0 ∙ begins))
  asks_host earlier d _ p out begins = absurd (false≢true (sym (in_false d p.dir) ∙ out))

  first_host : (division : Division) → HaveLabelsBy here says ids division → (x : Datagram) → first_of (asks here) (datagrams_of division) ≡ Some x → x.host ≡ ids.asked
  first_host [] labels x e = absurd (cc)
  first_host (p ∷ earlier) labels x e = elim (or_some (first_of (asks here) (datagrams_of earlier)) (asks here p.datagram) p.datagram x e) [
    | inl before ↦ first_host earlier labels.1 x before
    | inr this ↦
        let a = and_parts (goes_out p.datagram && begins_request p.datagram) (p.datagram.remote == service) this.1 in
        let b = and_parts (goes_out p.datagram) (begins_request p.datagram) a.0 in
        subst (λ (d : Datagram). d.host ≡ ids.asked) this.2 (asks_host earlier p.datagram p.label labels.0 b.0 b.1)
  ]

  some_in : (division : Division) → Any CameIn division → (x : Datagram) × (first_of comes_in (datagrams_of division) ≡ Some x)
  some_in [] any = absurd (any_none (λ (p : Labelled). p.datagram.dir ≡ In) any)
  some_in (p ∷ earlier) any = elim (any_cases (λ (p : Labelled). p.datagram.dir ≡ In) p earlier any) [
    | inl way ↦ now comes_in p.datagram (datagrams_of earlier) (in_true p.datagram way)
    | inr before ↦ let found = some_in earlier before in (found.0, first_stays comes_in p.datagram found.0 (datagrams_of earlier) found.1)
  ]

  main_in : (division : Division) → Any MainIn division → Any CameIn division
  main_in [] any = absurd (any_none MainIn any)
  main_in (p ∷ earlier) any = elim (any_cases MainIn p earlier any) [
    | inl this ↦ any_first (λ (p : Labelled). p.datagram.dir ≡ In) p earlier this.1
    | inr before ↦ any_later (λ (p : Labelled). p.datagram.dir ≡ In) p earlier (main_in earlier before)
  ]

  -- the first that came in is the server's
  came_first : (earlier : Division) (d : Datagram) (label : Label) → HasLabelBy here says ids earlier d label → Starts Client (view_in (record { datagram = d; label = label } ∷ earlier))
      → first_of comes_in (datagrams_of earlier) ≡ None → comes_in d ≡ true → peer_of d ≡ ids.peer
  came_first earlier d (Main (Sent q)) p own none came = absurd (false≢true (sym (out_false d p.dir) ∙ came))
  came_first earlier d (Main (Took Req)) p own none came = absurd (own.0.not_back refl)
  came_first earlier d Stray p own none came = let found = some_in earlier (main_in earlier p.after) in let both : None ≡ Some found.0 = sym none ∙ found.1 in absurd (cc)
  came_first earlier d StrayAnswer p own none came = absurd (false≢true (sym (out_false d p.dir) ∙ came))
  came_first earlier d _ p own none came = p.server.0

  came_peer : (division : Division) → HaveLabelsBy here says ids division → Starts Client (view_in division) → (x : Datagram) → first_of comes_in (datagrams_of division) ≡ Some x → peer_of x ≡ ids.peer
  came_peer [] labels own x e = absurd (cc)
  came_peer (p ∷ earlier) labels own x e = elim (or_some (first_of comes_in (datagrams_of earlier)) (comes_in p.datagram) p.datagram x e) [
    | inl before ↦ came_peer earlier labels.1 (starts_before Client p.datagram p.label earlier own) x before
    | inr this ↦ subst (λ (d : Datagram). peer_of d ≡ ids.peer) this.2 (came_first earlier p.datagram p.label labels.0 own this.0 this.1)
  ]

  asks_there : (earlier : Division) (d : Datagram) → Carries here says ids earlier d (Sent Req) → asks here d ≡ true
  asks_there earlier d p = and_from _ _ (and_from _ _ (out_true d p.dir) (told.request d.payload p.spells)) (same_true d.remote service p.server.0)

  asked_there : (d : Datagram) → asks here d ≡ true → d.remote ≡ service
  asked_there d t = eqb-true d.remote service (and_parts (goes_out d && begins_request d) (d.remote == service) t).1

  some_asked : (division : Division) → HaveLabelsBy here says ids division → Starts Client (view_in division) → (last : Deed) (rest : History) → view_in division ≡ last ∷ rest → Asked here division
  some_asked division labels own last rest is = asked_some here says ids (λ earlier d carries. asks_there earlier d carries) division labels own last rest is

  module _ (earlier : Division) (labels : HaveLabelsBy here says ids earlier) (own : Starts Client (view_in earlier)) where
    local_is : (d first : Datagram) → d.local ≡ ids.own → first_of (asks here) (datagrams_of earlier) ≡ Some first → (d.local == first.local) ≡ true
    local_is d first is some = same_true d.local first.local (is ∙ sym (first_own earlier labels first some))

    remote_is : (d other : Datagram) → peer_of d ≡ ids.peer → first_of comes_in (datagrams_of earlier) ≡ Some other → same_peer (peer_of d) (peer_of other) ≡ true
    remote_is d other is some = same_is (peer_of d) (peer_of other) (is ∙ sym (came_peer earlier labels own other some))

    remote_not : (d other : Datagram) → (peer_of d ≡ ids.peer → ⊥) → first_of comes_in (datagrams_of earlier) ≡ Some other → same_peer (peer_of d) (peer_of other) ≡ false
    remote_not d other not_there some = other_peer (peer_of d) (peer_of other) (λ same. not_there (same ∙ came_peer earlier labels own other some))

    -- a request goes where the first one went
    asked_is : (d first : Datagram) → (d.remote ≡ service) × (Client ≡ Client → d.host ≡ ids.asked) → first_of (asks here) (datagrams_of earlier) ≡ Some first → same_peer (peer_of d) (peer_of first) ≡ true
    asked_is d first goes some =
        let host = goes.1 refl ∙ sym (first_host earlier labels first some) in
        let port = goes.0 ∙ sym (asked_there first (first_passes (asks here) (datagrams_of earlier) first some)) in
        same_is (peer_of d) (peer_of first) (λ i. record { host = host i; port = port i })

    route_request : (d : Datagram) → Carries here says ids earlier d (Sent Req) → route_of here (datagrams_of earlier) d ≡ Route.Request
    route_request d p =
        let out = out_true d p.dir in
        let begins = told.request d.payload p.spells in
        let there = same_true d.remote service p.server.0 in
        elim (two_ways (first_of (asks here) (datagrams_of earlier))) [
          | inl none ↦ first_request service rollover (datagrams_of earlier) d none out begins there
          | inr some ↦ later_request service rollover (datagrams_of earlier) d some.0 some.1 (local_is d some.0 p.client some.1) out begins (asked_is d some.0 p.server some.1)
        ]

    -- something was asked before
    asked_before : (deed : Deed) → (deed ≡ Sent Req → ⊥) → Starts Client (deed ∷ view_in earlier) → Asked here earlier
    asked_before deed other all = by (view_in earlier) refl where
      by : (v : History) → view_in earlier ≡ v → Asked here earlier
      by (last ∷ rest) is = some_asked earlier labels own last rest is
      by [] is = absurd (other (all.0.first is))

    route_sent : (d : Datagram) (q : MachinePacket) → (q ≡ Req → ⊥) → Carries here says ids earlier d (Sent q) → HasServerId Client ids d × ((d.dir ≡ In) ⊎ Any (λ (p : Labelled). p.datagram.dir ≡ In) earlier)
        → Asked here earlier → route_of here (datagrams_of earlier) d ≡ Route.Peer
    route_sent d q other p goes asked =
        let back = some_in earlier (elim goes.1 [ inl way ↦ absurd (let e : Out ≡ In = sym p.dir ∙ way in cc) | inr before ↦ before ]) in
        out_peer service rollover (datagrams_of earlier) d asked.0 back.0 asked.1 back.1 (local_is d asked.0 p.client asked.1) (out_true d p.dir) (told.other q other d.payload p.spells) (remote_is d back.0 goes.0 back.1)

    route_took : (d : Datagram) (q : MachinePacket) → Carries here says ids earlier d (Took q) → HasServerId Client ids d → Asked here earlier → route_of here (datagrams_of earlier) d ≡ Route.Peer
    route_took d q p from asked = elim (two_ways (first_of comes_in (datagrams_of earlier))) [
      | inl none ↦ in_first service rollover (datagrams_of earlier) d asked.0 asked.1 none (local_is d asked.0 p.client asked.1) (in_false d p.dir)
      | inr some ↦ in_peer service rollover (datagrams_of earlier) d asked.0 some.0 asked.1 some.1 (local_is d asked.0 p.client asked.1) (in_false d p.dir) (remote_is d some.0 from some.1)
    ]

    route_main : (d : Datagram) (deed : Deed) → Carries here says ids earlier d deed → Starts Client (deed ∷ view_in earlier) → route_of here (datagrams_of earlier) d ≡ packet_route (packet_of deed)
    route_main d (Sent Req) p all = route_request d p
    route_main d (Sent Oack) p all = route_sent d Oack (λ e. cc) p p.server (asked_before (Sent Oack) (λ e. cc) all)
    route_main d (Sent (Data k)) p all = route_sent d (Data k) (λ e. cc) p p.server (asked_before (Sent (Data k)) (λ e. cc) all)
    route_main d (Sent (Ack j)) p all = route_sent d (Ack j) (λ e. cc) p p.server (asked_before (Sent (Ack j)) (λ e. cc) all)
    route_main d (Took Req) p all = absurd (all.0.not_back refl)
    route_main d (Took Oack) p all = route_took d Oack p p.server.0 (asked_before (Took Oack) (λ e. cc) all)
    route_main d (Took (Data k)) p all = route_took d (Data k) p p.server.0 (asked_before (Took (Data k)) (λ e. cc) all)
    route_main d (Took (Ack j)) p all = route_took d (Ack j) p p.server.0 (asked_before (Took (Ack j)) (λ e. cc) all)
    route_main d (Sent (Error code text)) p all = route_sent d (Error code text) (λ e. cc) p p.server (asked_before (Sent (Error code text)) (λ e. cc) all)
    route_main d (Took (Error code text)) p all = route_took d (Error code text) p p.server.0 (asked_before (Took (Error code text)) (λ e. cc) all)

    asked_by_main : Any MainIn earlier → Asked here earlier
    asked_by_main any = let some = view_some In earlier any in some_asked earlier labels own some.0 some.1 some.2

    route_stray : (d : Datagram) → ComesAstray here ids earlier d → route_of here (datagrams_of earlier) d ≡ Route.Stray
    route_stray d p =
        let asked = asked_by_main p.after in
        let came = some_in earlier (main_in earlier p.after) in
        in_stray service rollover (datagrams_of earlier) d asked.0 came.0 asked.1 came.1 (local_is d asked.0 p.here asked.1) (in_false d p.dir) (remote_not d came.0 p.elsewhere came.1)

    route_answer : (d : Datagram) → AnswersStray here ids earlier d → route_of here (datagrams_of earlier) d ≡ Route.StrayAnswer
    route_answer d p =
        let stray = stray_there here says ids earlier labels (peer_of d) p.there in
        let asked = asked_by_main stray.0 in
        let came = some_in earlier (main_in earlier stray.0) in
        let error = error_begins d 5 p.spells.0 p.spells.1 in
        out_answer service rollover (datagrams_of earlier) d asked.0 came.0 asked.1 came.1 (local_is d asked.0 p.here asked.1) (out_true d p.dir) error.0 (remote_not d came.0 stray.2 came.1) stray.1 error.1

    step : (d : Datagram) (label : Label) → HasLabelBy here says ids earlier d label → Starts Client (view_in (record { datagram = d; label = label } ∷ earlier))
        → (route_of here (datagrams_of earlier) d ≡ label_route label) × SaysAsBy says d label
    step d (Main deed) p all = (route_main d deed p all, (p.dir, p.spells))
    step d Stray p all = (route_stray d p, tt)
    step d StrayAnswer p all = (route_answer d p, p.spells)

  -- each datagram has the route of its label
  pub routed_at_client : (division : Division) → HaveLabelsBy here says ids division → Starts Client (view_in division) → AreRoutedBy here says division
  routed_at_client [] labels own = tt
  routed_at_client (p ∷ earlier) labels own =
      let before = starts_before Client p.datagram p.label earlier own in
      let this = step earlier labels.1 before p.datagram p.label labels.0 own in
      (this.0, this.1, routed_at_client earlier labels.1 before)
