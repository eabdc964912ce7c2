-- At the server the labels of a division have their routes.
use Rattle.std.proofs.Common.{◌≡◌, ◌⊎◌, ℕ, ◌+◌, ◌*◌, Bool, true, false, List, [], ◌∷◌, Option, Some, None, Any, inl, inr, refl, sym, subst, ◌∙◌, arith, ◌&&◌, ◌||◌, ◌==◌}
use Rattle.std.proofs.lemmas.Bool.{false≢true, and_from, and_parts, eqb-true, false_from_ne_true, or_cases}
use Rattle.tftp_packet.specs.{opcode_of, Server}
use Rattle.tftp_packet.specs.{Rollover}
use Rattle.tftp_packet.specs.Hosts.{Datagram, Header, peer_of, same_peer}
use Rattle.tftp_packet.specs.{In, Out}
use Rattle.law_model.specs.Model.{MachinePacket, Req, Oack, Data, Ack, Deed, Sent, Took, History, Error}
use Rattle.law_model.specs.Rules.{Route, goes_out, comes_in, begins_request, begins_error, asks, first_of, has_come_from, route_of}
use Rattle.law_end.specs.Dress.{StrayAnswer}
use Rattle.law_end.specs.{Label, Main, Stray, Division, datagrams_of, view_in, packet_of, TransferIds, Saying, Carries, ComesAstray, AnswersStray, HasLabelBy, HaveLabelsBy, IsMain, HasServerId, BeginsAsRequest, packet_route, label_route, SaysAsBy, AreRoutedBy, Starts}
use Rattle.law_end.proofs.Division.RouteTests.{same_true, out_true, in_false, in_true, out_false, error_begins, two_ways, now, same_is, other_peer, IsTold}
use Rattle.law_end.proofs.Division.Divided.{any_none, any_cases}
use Rattle.law_end.proofs.FirstBroken.FirstRequests.{or_some, first_stays}
use Rattle.law_end.proofs.Division.Opening.{NoErrorFirst}
use Rattle.law_end.proofs.Division.Placing.{one, starts_before, WentOut, MainOut, any_main_out, Asked, asked_some, stray_there, view_some}

-- ---- the server

pub byte_begins : (payload : List ℕ) → ((opcode_of payload == 1) || (opcode_of payload == 2)) ≡ true → BeginsAsRequest payload
byte_begins [] e = absurd (false≢true e)
byte_begins (x ∷ []) e = absurd (false≢true e)
byte_begins (x ∷ y ∷ rest) e = elim (or_cases (256 * x + y == 1) (256 * x + y == 2) e) [
  | inl one ↦ let is = eqb-true (256 * x + y) 1 one in let a : x ≡ 0 = omega arith in let b : y ≡ 1 = omega arith in (rest, inl (cc))
  | inr two ↦ let is = eqb-true (256 * x + y) 2 two in let a : x ≡ 0 = omega arith in let b : y ≡ 2 = omega arith in (rest, inr (cc))
]

module _ (service : ℕ) (rollover : Option Rollover) where
  abbrev home : Header
  home = record { named = Server; service = service; rollover = rollover }

  abbrev to_client : Datagram → Datagram → Bool
  to_client first a = goes_out a && same_peer (peer_of a) (peer_of first)

  s_first_request : (ds : List Datagram) (d : Datagram) → first_of (asks home) ds ≡ None → goes_out d ≡ false → begins_request d ≡ true → (d.local == service) ≡ true → route_of home ds d ≡ Route.Request
  s_first_request ds d none out begins there = rw (none, out, begins, there) refl

  s_later_request : (ds : List Datagram) (d first : Datagram) → first_of (asks home) ds ≡ Some first → goes_out d ≡ false → begins_request d ≡ true → (d.local == service) ≡ true → same_peer (peer_of d) (peer_of first) ≡ true
      → (o : Option Datagram) → first_of (to_client first) ds ≡ o → ((x : Datagram) → o ≡ Some x → (b : Bool) × ((d.local == x.local) ≡ b)) → route_of home ds d ≡ Route.Request
  s_later_request ds d first some out begins there from None is test = rw (some, is, out, there, from, begins) refl
  s_later_request ds d first some out begins there from (Some x) is test = by (d.local == x.local) refl where
    by : (b : Bool) → (d.local == x.local) ≡ b → route_of home ds d ≡ Route.Request
    by true e = rw (some, is, out, e, begins, there, from) refl
    by false e = rw (some, is, out, e, there, from, begins) refl

  s_out_first : (ds : List Datagram) (d first : Datagram) → first_of (asks home) ds ≡ Some first → first_of (to_client first) ds ≡ None → goes_out d ≡ true → same_peer (peer_of d) (peer_of first) ≡ true → route_of home ds d ≡ Route.Peer
  s_out_first ds d first some none out to = rw (some, none, out, to) refl

  s_out_later : (ds : List Datagram) (d first other : Datagram) → first_of (asks home) ds ≡ Some first → first_of (to_client first) ds ≡ Some other → goes_out d ≡ true → (d.local == other.local) ≡ true → same_peer (peer_of d) (peer_of first) ≡ true
      → route_of home ds d ≡ Route.Peer
  s_out_later ds d first other some was out own to = rw (some, was, out, own, to) refl

  s_in_peer : (ds : List Datagram) (d first other : Datagram) → first_of (asks home) ds ≡ Some first → first_of (to_client first) ds ≡ Some other → goes_out d ≡ false → (d.local == other.local) ≡ true → begins_request d ≡ false
      → same_peer (peer_of d) (peer_of first) ≡ true → route_of home ds d ≡ Route.Peer
  s_in_peer ds d first other some was out own begins from = rw (some, was, out, own, begins, from) refl

  s_in_stray : (ds : List Datagram) (d first other : Datagram) → first_of (asks home) ds ≡ Some first → first_of (to_client first) ds ≡ Some other → goes_out d ≡ false → (d.local == other.local) ≡ true
      → (begins_request d && (d.local == service)) ≡ false → same_peer (peer_of d) (peer_of first) ≡ false → route_of home ds d ≡ Route.Stray
  s_in_stray ds d first other some was out own begins from = rw (some, was, out, own, begins, from) refl

  s_answer : (ds : List Datagram) (d first other : Datagram) → first_of (asks home) ds ≡ Some first → first_of (to_client first) ds ≡ Some other → goes_out d ≡ true → (d.local == other.local) ≡ true → same_peer (peer_of d) (peer_of first) ≡ false
      → has_come_from (peer_of d) ds ≡ true → begins_error d ≡ true → route_of home ds d ≡ Route.StrayAnswer
  s_answer ds d first other some was out own to noted error = rw (some, was, out, own, to, noted, error) refl

module _ (service : ℕ) (rollover : Option Rollover) (says : Saying) (told : IsTold says) (ids : TransferIds) where
  abbrev hh : Header
  hh = home service rollover

  abbrev Parts : Division → Type 0
  Parts division = HaveLabelsBy hh says ids division

  abbrev Part1 : Division → Datagram → Label → Type 0
  Part1 earlier d label = HasLabelBy hh says ids earlier d label

  abbrev Own : Division → Type 0
  Own division = Starts Server (view_in division)

  -- the first request is the client's
  s_asks_peer : (earlier : Division) (d : Datagram) (label : Label) → Part1 earlier d label → asks hh d ≡ true → peer_of d ≡ ids.peer
  s_asks_peer earlier d (Main deed) p t = p.client
  s_asks_peer earlier d Stray p t =
      let a = and_parts (comes_in d && begins_request d) (d.local == service) t in
      let b = and_parts (comes_in d) (begins_request d) a.0 in
      absurd (p.no_request refl (sym p.here ∙ eqb-true d.local service a.1) (byte_begins d.payload b.1))
  s_asks_peer earlier d StrayAnswer p t =
      let a = and_parts (comes_in d && begins_request d) (d.local == service) t in
      let b = and_parts (comes_in d) (begins_request d) a.0 in
      absurd (false≢true (sym (out_false d p.dir) ∙ b.0))

  s_first_peer : (division : Division) → Parts division → (x : Datagram) → first_of (asks hh) (datagrams_of division) ≡ Some x → peer_of x ≡ ids.peer
  s_first_peer [] labels x e = absurd (cc)
  s_first_peer (p ∷ earlier) labels x e = elim (or_some (first_of (asks hh) (datagrams_of earlier)) (asks hh p.datagram) p.datagram x e) [
    | inl before ↦ s_first_peer earlier labels.1 x before
    | inr this ↦ subst (λ (d : Datagram). peer_of d ≡ ids.peer) this.2 (s_asks_peer earlier p.datagram p.label labels.0 this.1)
  ]

  -- what goes out comes from the server's port
  s_out_own : (earlier : Division) (d : Datagram) (label : Label) → Part1 earlier d label → Own (one d label earlier) → goes_out d ≡ true → d.local ≡ ids.own
  s_out_own earlier d (Main (Sent Req)) p own t = absurd (own.0.not_back refl)
  s_out_own earlier d (Main (Took q)) p own t = absurd (false≢true (sym (in_false d p.dir) ∙ t))
  s_out_own earlier d Stray p own t = absurd (false≢true (sym (in_false d p.dir) ∙ t))
  s_out_own earlier d StrayAnswer p own t = p.here
  s_out_own earlier d _ p own t = p.server.0

  s_first_own : (division : Division) → Parts division → Own division → (first x : Datagram) → first_of (to_client service rollover first) (datagrams_of division) ≡ Some x → x.local ≡ ids.own
  s_first_own [] labels own first x e = absurd (cc)
  s_first_own (p ∷ earlier) labels own first x e = elim (or_some (first_of (to_client service rollover first) (datagrams_of earlier)) (to_client service rollover first p.datagram) p.datagram x e) [
    | inl before ↦ s_first_own earlier labels.1 (starts_before Server p.datagram p.label earlier own) first x before
    | inr this ↦ subst (λ (d : Datagram). d.local ≡ ids.own) this.2 (s_out_own earlier p.datagram p.label labels.0 own (and_parts (goes_out p.datagram) (same_peer (peer_of p.datagram) (peer_of first)) this.1).0)
  ]

  s_main_peer : (d : Datagram) (label : Label) (earlier : Division) → Part1 earlier d label → IsMain label → peer_of d ≡ ids.peer
  s_main_peer d (Main deed) earlier p is = p.client
  s_main_peer d Stray earlier p (deed, is) = absurd (cc)
  s_main_peer d StrayAnswer earlier p (deed, is) = absurd (cc)

  -- so a main one went to the client
  s_some_out : (division : Division) → Parts division → (first : Datagram) → peer_of first ≡ ids.peer → Any MainOut division → (x : Datagram) × (first_of (to_client service rollover first) (datagrams_of division) ≡ Some x)
  s_some_out [] labels first is any = absurd (any_none MainOut any)
  s_some_out (p ∷ earlier) labels first is any = elim (any_cases MainOut p earlier any) [
    | inl this ↦ now (to_client service rollover first) p.datagram (datagrams_of earlier)
        (and_from _ _ (out_true p.datagram this.1) (same_is (peer_of p.datagram) (peer_of first) (s_main_peer p.datagram p.label earlier labels.0 this.0 ∙ sym is)))
    | inr before ↦ let found = s_some_out earlier labels.1 first is before in (found.0, first_stays (to_client service rollover first) p.datagram found.0 (datagrams_of earlier) found.1)
  ]

  s_asks_there : (earlier : Division) (d : Datagram) → Carries hh says ids earlier d (Took Req) → asks hh d ≡ true
  s_asks_there earlier d p = and_from _ _ (and_from _ _ (in_true d p.dir) (told.request d.payload p.spells)) (same_true d.local service p.server.0)

  s_some_asked : (division : Division) → Parts division → Own division → (last : Deed) (rest : History) → view_in division ≡ last ∷ rest → Asked hh division
  s_some_asked division labels own last rest is = asked_some hh says ids (λ earlier d carries. s_asks_there earlier d carries) division labels own last rest is

  module _ (earlier : Division) (labels : Parts earlier) (own : Own earlier) where
    abbrev ds : List Datagram
    ds = datagrams_of earlier

    s_remote_is : (d first : Datagram) → peer_of d ≡ ids.peer → first_of (asks hh) ds ≡ Some first → same_peer (peer_of d) (peer_of first) ≡ true
    s_remote_is d first is some = same_is (peer_of d) (peer_of first) (is ∙ sym (s_first_peer earlier labels first some))

    s_remote_not : (d first : Datagram) → (peer_of d ≡ ids.peer → ⊥) → first_of (asks hh) ds ≡ Some first → same_peer (peer_of d) (peer_of first) ≡ false
    s_remote_not d first apart some = other_peer (peer_of d) (peer_of first) (λ same. apart (same ∙ s_first_peer earlier labels first some))

    s_local_is : (d first other : Datagram) → d.local ≡ ids.own → first_of (to_client service rollover first) ds ≡ Some other → (d.local == other.local) ≡ true
    s_local_is d first other is some = same_true d.local other.local (is ∙ sym (s_first_own earlier labels own first other some))

    s_route_request : (d : Datagram) → Carries hh says ids earlier d (Took Req) → route_of hh ds d ≡ Route.Request
    s_route_request d p =
        let out = in_false d p.dir in
        let begins = told.request d.payload p.spells in
        let there = same_true d.local service p.server.0 in
        elim (two_ways (first_of (asks hh) ds)) [
          | inl none ↦ s_first_request service rollover ds d none out begins there
          | inr some ↦ s_later_request service rollover ds d some.0 some.1 out begins there (s_remote_is d some.0 p.client some.1) (first_of (to_client service rollover some.0) ds) refl (λ x e. (d.local == x.local, refl))
        ]

    s_asked_before : (deed : Deed) → (deed ≡ Took Req → ⊥) → Starts Server (deed ∷ view_in earlier) → Asked hh earlier
    s_asked_before deed other all = by (view_in earlier) refl where
      by : (v : History) → view_in earlier ≡ v → Asked hh earlier
      by (last ∷ rest) is = s_some_asked earlier labels own last rest is
      by [] is = absurd (other (all.0.first is))

    s_route_sent : (d : Datagram) (q : MachinePacket) → Carries hh says ids earlier d (Sent q) → HasServerId Server ids d → Asked hh earlier → route_of hh ds d ≡ Route.Peer
    s_route_sent d q p at_own asked = elim (two_ways (first_of (to_client service rollover asked.0) ds)) [
      | inl none ↦ s_out_first service rollover ds d asked.0 asked.1 none (out_true d p.dir) (s_remote_is d asked.0 p.client asked.1)
      | inr some ↦ s_out_later service rollover ds d asked.0 some.0 asked.1 some.1 (out_true d p.dir) (s_local_is d asked.0 some.0 at_own some.1) (s_remote_is d asked.0 p.client asked.1)
    ]

    s_route_took : (d : Datagram) (q : MachinePacket) → (q ≡ Req → ⊥) → Carries hh says ids earlier d (Took q) → HasServerId Server ids d × ((d.dir ≡ Out) ⊎ Any WentOut earlier) → Asked hh earlier → route_of hh ds d ≡ Route.Peer
    s_route_took d q other p goes asked =
        let went = any_main_out service rollover says ids earlier labels (elim goes.1 [ inl way ↦ absurd (let e : In ≡ Out = sym p.dir ∙ way in cc) | inr before ↦ before ]) in
        let some = s_some_out earlier labels asked.0 (s_first_peer earlier labels asked.0 asked.1) went in
        s_in_peer service rollover ds d asked.0 some.0 asked.1 some.1 (in_false d p.dir) (s_local_is d asked.0 some.0 goes.0 some.1) (told.other q other d.payload p.spells) (s_remote_is d asked.0 p.client asked.1)

    s_route_main : (d : Datagram) (deed : Deed) → Carries hh says ids earlier d deed → Starts Server (deed ∷ view_in earlier) → route_of hh ds d ≡ packet_route (packet_of deed)
    s_route_main d (Took Req) p all = s_route_request d p
    s_route_main d (Took Oack) p all = s_route_took d Oack (λ e. cc) p p.server (s_asked_before (Took Oack) (λ e. cc) all)
    s_route_main d (Took (Data k)) p all = s_route_took d (Data k) (λ e. cc) p p.server (s_asked_before (Took (Data k)) (λ e. cc) all)
    s_route_main d (Took (Ack j)) p all = s_route_took d (Ack j) (λ e. cc) p p.server (s_asked_before (Took (Ack j)) (λ e. cc) all)
    s_route_main d (Sent Req) p all = absurd (all.0.not_back refl)
    s_route_main d (Sent Oack) p all = s_route_sent d Oack p p.server.0 (s_asked_before (Sent Oack) (λ e. cc) all)
    s_route_main d (Sent (Data k)) p all = s_route_sent d (Data k) p p.server.0 (s_asked_before (Sent (Data k)) (λ e. cc) all)
    s_route_main d (Sent (Ack j)) p all = s_route_sent d (Ack j) p p.server.0 (s_asked_before (Sent (Ack j)) (λ e. cc) all)
    s_route_main d (Took (Error code text)) p all = s_route_took d (Error code text) (λ e. cc) p p.server (s_asked_before (Took (Error code text)) (λ e. cc) all)
    s_route_main d (Sent (Error code text)) p all = s_route_sent d (Error code text) p p.server.0 (s_asked_before (Sent (Error code text)) (λ e. cc) all)

    s_asked_by_main : Any MainOut earlier → Asked hh earlier
    s_asked_by_main any = let some = view_some Out earlier any in s_some_asked earlier labels own some.0 some.1 some.2

    s_route_stray : (d : Datagram) → ComesAstray hh ids earlier d → route_of hh ds d ≡ Route.Stray
    s_route_stray d p =
        let asked = s_asked_by_main p.after in
        let some = s_some_out earlier labels asked.0 (s_first_peer earlier labels asked.0 asked.1) p.after in
        s_in_stray service rollover ds d asked.0 some.0 asked.1 some.1 (in_false d p.dir) (s_local_is d asked.0 some.0 p.here some.1)
        (false_from_ne_true (begins_request d && (d.local == service)) (λ t. let a = and_parts (begins_request d) (d.local == service) t in p.no_request refl (sym p.here ∙ eqb-true d.local service a.1) (byte_begins d.payload a.0)))
        (s_remote_not d asked.0 p.elsewhere asked.1)

    s_route_answer : (d : Datagram) → AnswersStray hh ids earlier d → route_of hh ds d ≡ Route.StrayAnswer
    s_route_answer d p =
        let stray = stray_there hh says ids earlier labels (peer_of d) p.there in
        let asked = s_asked_by_main stray.0 in
        let some = s_some_out earlier labels asked.0 (s_first_peer earlier labels asked.0 asked.1) stray.0 in
        let error = error_begins d 5 p.spells.0 p.spells.1 in
        s_answer service rollover ds d asked.0 some.0 asked.1 some.1 (out_true d p.dir) (s_local_is d asked.0 some.0 p.here some.1) (s_remote_not d asked.0 stray.2 asked.1) stray.1 error.1

    s_step : (d : Datagram) (label : Label) → Part1 earlier d label → Own (one d label earlier) → (route_of hh ds d ≡ label_route label) × SaysAsBy says d label
    s_step d (Main deed) p all = (s_route_main d deed p all, (p.dir, p.spells))
    s_step d Stray p all = (s_route_stray d p, tt)
    s_step d StrayAnswer p all = (s_route_answer d p, p.spells)

  -- no ERROR comes first: the server has sent something before it
  s_error_later : (d : Datagram) (earlier : Division) → Parts earlier → view_in earlier ≡ [] → (code : ℕ) (text : List ℕ) → Carries hh says ids earlier d (Took (Error code text)) → ⊥
  s_error_later d earlier labels empty code text c = elim c.server.1 [
    | inl way ↦ let both : In ≡ Out = sym c.dir ∙ way in absurd (cc)
    | inr any ↦ let some = view_some Out earlier (any_main_out service rollover says ids earlier labels any) in let both : [] ≡ some.0 ∷ some.1 = sym empty ∙ some.2 in absurd (cc)
  ]

  s_later : (d : Datagram) (label : Label) (earlier : Division) → Part1 earlier d label → Parts earlier → NoErrorFirst (view_in earlier) → NoErrorFirst (view_in (one d label earlier))
  s_later d (Main deed) earlier p labels rest = (λ empty code text is. s_error_later d earlier labels empty code text (subst (Carries hh says ids earlier d) is p), rest)
  s_later d Stray earlier p labels rest = rest
  s_later d StrayAnswer earlier p labels rest = rest

  pub no_error_first : (division : Division) → Parts division → NoErrorFirst (view_in division)
  no_error_first [] labels = tt
  no_error_first (p ∷ earlier) labels = s_later p.datagram p.label earlier labels.0 labels.1 (no_error_first earlier labels.1)

  -- each datagram has the route of its label
  pub routed_at_server : (division : Division) → Parts division → Own division → AreRoutedBy hh says division
  routed_at_server [] labels own = tt
  routed_at_server (p ∷ earlier) labels own =
      let before = starts_before Server p.datagram p.label earlier own in
      let this = s_step earlier labels.1 before p.datagram p.label labels.0 own in
      (this.0, this.1, routed_at_server earlier labels.1 before)
