-- Who the server is, by the datagrams of a lawful capture at the client: where what first came to it came from.
use Rattle.std.proofs.Common.{◌≡◌, ℕ, true, false, List, [], ◌∷◌, Any, Option, Some, None, inl, inr, refl, sym, ap, subst, ◌∙◌, ◌==◌, ◌&&◌, not}
use Rattle.std.specs.List.{AllByRecursion}
use Rattle.std.proofs.lemmas.Bool.{false≢true, and_parts, and_from, eq-eqb, not-true}
use Rattle.tftp_packet.specs.{Out}
use Rattle.law_model.specs.Model.{Meaning}
use Rattle.law_model.specs.Rules.{first_of, or_this}
use Rattle.law_end.specs.{TransferIds}
use Rattle.law_end.proofs.Division.Divided.{any_none, any_cases, any_later}
use Rattle.law_end.proofs.Division.RouteTests.{error_begins}
use Rattle.law_end.proofs.Division.Routed.{told_of}
use Rattle.audit_flows.specs.Lines.{begins_error, same_endpoint, Placed, is_request}
use Rattle.audit_flows.specs.{Endpoint, Place, Opens, Repeats, Talks, Transfer}
use Rattle.audit_flows.proofs.LinesLemmas.Endpoints.{same_itself}
use Rattle.audit_flows.proofs.LinesLemmas.Lines.{by_test}
use Rattle.audit_flows.specs.Transfers.{comes, goes_on, server_of}
use Rattle.audit_cleared.specs.{IsOpenedIn}
use Rattle.audit_views.specs.Views.{captured}
use Rattle.audit_views.specs.Parties.{host_name}
use Rattle.audit_recording.specs.Between.{server_or_asked, peer_of as side}
use Rattle.audit_cleared.proofs.Own.{IsOwn, as_request, as_talk}
use Rattle.audit_cleared.proofs.Pairs.{Pair, placed_in, came_to, any_weaker}
use Rattle.audit_cleared.proofs.Told.{Came, StrayFrom, GoesOut, asking, going_on, answering, ComesIn, from_there, astray, Says, sent, taken, Told}

-- another endpoint than the client has another name
abbrev pub IsNamedApart : Transfer → Placed → Type 0
IsNamedApart x p = same_endpoint p.datagram.source x.client ≡ false → side p.datagram.source ≡ side x.client → ⊥

-- ---- tests of one datagram

request_stays : (n : ℕ) (p : Placed) → is_request p ≡ true → goes_on n p ≡ false
request_stays n p is = by p.place is where
  by : (place : Place) → is_request (record { datagram = p.datagram; moment = p.moment; place = place }) ≡ true → goes_on n (record { datagram = p.datagram; moment = p.moment; place = place }) ≡ false
  by (Opens x) is = refl
  by (Repeats x) is = refl
  by _ is = absurd (false≢true is)

request_sent : (n : ℕ) (p : Placed) → is_request p ≡ true → comes n p ≡ false
request_sent n p is = by p.place is where
  by : (place : Place) → is_request (record { datagram = p.datagram; moment = p.moment; place = place }) ≡ true → comes n (record { datagram = p.datagram; moment = p.moment; place = place }) ≡ false
  by (Opens x) is = refl
  by (Repeats x) is = refl
  by _ is = absurd (false≢true is)

pub not_from : (x : Transfer) (p : Placed) → same_endpoint p.datagram.source x.client ≡ false → p.datagram.source ≡ x.client → ⊥
not_from x p off is = false≢true (sym off ∙ subst (λ e. same_endpoint e x.client ≡ true) (sym is) (same_itself x.client))

-- what did not come from the client came to it
comes_own : (x : Transfer) (p : Placed) → IsOwn x p → same_endpoint p.datagram.source x.client ≡ false → comes x.number p ≡ true
comes_own x p (as_request is begins source opens) off = absurd (not_from x p off source)
comes_own x p (as_talk at ends asks) off =
    rw at (and_from (x.number == x.number) (same_endpoint p.datagram.target x.client) (eq-eqb x.number x.number refl)
    (subst (λ e. same_endpoint e x.client ≡ true) (sym (came_to x p (as_talk at ends asks) off)) (same_itself x.client)))

module _ (x : Transfer) (m : Meaning) (wire : List ℕ) (ids : TransferIds) where
  -- what the client sent that is neither a request nor an ERROR went to the peer, from which something had come
  goes_to : (q : Pair) (earlier : List Pair) → IsOwn x q.placed → Says x m wire ids earlier q → goes_on x.number q.placed ≡ true → (side q.placed.datagram.target ≡ ids.peer) × Any (Came x) earlier
  goes_to q earlier (as_request is begins source opens) told goes = absurd (false≢true (sym (request_stays x.number q.placed is) ∙ goes))
  goes_to q earlier (as_talk at ends asks) told goes = by told where
    parts : ((x.number == x.number) && same_endpoint q.placed.datagram.source x.client && not (begins_error q.placed.datagram.payload)) ≡ true
    parts = rw at at goes

    no_error : begins_error q.placed.datagram.payload ≡ false
    no_error = not-true (begins_error q.placed.datagram.payload) (and_parts _ (not (begins_error q.placed.datagram.payload)) parts).1

    out : GoesOut x m wire ids earlier q.placed.datagram q.label → (side q.placed.datagram.target ≡ ids.peer) × Any (Came x) earlier
    out (asking is port host says) = absurd (asks ((told_of m wire).request q.placed.datagram.payload says) port)
    out (going_on packet is other to before says) = (to, before)
    out (answering is before text spells) = absurd (false≢true (sym no_error ∙ (error_begins (captured host_name Out q.placed.datagram) 5 text spells).1))

    by : Says x m wire ids earlier q → (side q.placed.datagram.target ≡ ids.peer) × Any (Came x) earlier
    by (sent source goes_out) = out goes_out
    by (taken off to c) = absurd (false≢true (sym off ∙ (and_parts (x.number == x.number) (same_endpoint q.placed.datagram.source x.client) (and_parts _ (not (begins_error q.placed.datagram.payload)) parts).0).1))

  -- ---- with whom it went on

  pub data FirstWent (pairs : List Pair) (o : Option Placed) : Type 0 where
    stayed : o ≡ None → FirstWent pairs o
    left_for : (p : Placed) → o ≡ Some p → side p.datagram.target ≡ ids.peer → Any (Came x) pairs → FirstWent pairs o

  first_went : (pairs : List Pair) → Told x m wire ids pairs → AllByRecursion (IsOwn x) (placed_in pairs) → FirstWent pairs (first_of (goes_on x.number) (placed_in pairs))
  first_went [] told own = stayed refl
  first_went (q ∷ earlier) told own = by (first_went earlier told.1 own.1) where
    by : FirstWent earlier (first_of (goes_on x.number) (placed_in earlier)) → FirstWent (q ∷ earlier) (first_of (goes_on x.number) (placed_in (q ∷ earlier)))
    by (left_for p is to before) = left_for p (ap (λ o. or_this o (goes_on x.number q.placed) q.placed) is) to (any_later (Came x) q earlier before)
    by (stayed is) = by_test (goes_on x.number q.placed)
        (λ goes. left_for q.placed (ap (λ o. or_this o (goes_on x.number q.placed) q.placed) is ∙ ap (λ b. or_this None b q.placed) goes)
        (goes_to q earlier own.0 told.0 goes).0 (any_later (Came x) q earlier (goes_to q earlier own.0 told.0 goes).1))
        (λ off. stayed (ap (λ o. or_this o (goes_on x.number q.placed) q.placed) is ∙ ap (λ b. or_this None b q.placed) off))

  -- ---- who first sent it something

  pub data FirstCame (pairs : List Pair) (o : Option Placed) : Type 0 where
    nobody : (Any (Came x) pairs → ⊥) → o ≡ None → FirstCame pairs o
    somebody : (p : Placed) → o ≡ Some p → side p.datagram.source ≡ ids.peer → (side p.datagram.source ≡ side x.client → ⊥) → FirstCame pairs o

  -- where nothing had come before
  comes_first : (q : Pair) (earlier : List Pair) → IsOwn x q.placed → IsNamedApart x q.placed → Says x m wire ids earlier q → (Any (Came x) earlier → ⊥) → comes x.number q.placed ≡ true
      → (side q.placed.datagram.source ≡ ids.peer) × (side q.placed.datagram.source ≡ side x.client → ⊥)
  comes_first q earlier (as_request is begins source opens) apart told none comes_now = absurd (false≢true (sym (request_sent x.number q.placed is) ∙ comes_now))
  comes_first q earlier (as_talk at ends asks) apart told none comes_now = by told where
    out : GoesOut x m wire ids earlier q.placed.datagram q.label → ⊥
    out (asking is port host says) = asks ((told_of m wire).request q.placed.datagram.payload says) port
    out (going_on packet is other to before says) = none before
    out (answering is before text spells) = none (any_weaker (StrayFrom x m wire ids (side q.placed.datagram.target)) (Came x) (λ p from. from.1) earlier before)

    come : Came x q → ComesIn x m wire ids earlier q.placed.datagram q.label → (side q.placed.datagram.source ≡ ids.peer) × (side q.placed.datagram.source ≡ side x.client → ⊥)
    come off (from_there packet is from says) = (from, apart off)
    come off (astray is elsewhere before) = absurd (none before)

    by : Says x m wire ids earlier q → (side q.placed.datagram.source ≡ ids.peer) × (side q.placed.datagram.source ≡ side x.client → ⊥)
    by (sent source goes_out) = absurd (out goes_out)
    by (taken off to c) = come off c

  first_came : (pairs : List Pair) → Told x m wire ids pairs → AllByRecursion (IsOwn x) (placed_in pairs) → AllByRecursion (IsNamedApart x) (placed_in pairs)
      → FirstCame pairs (first_of (comes x.number) (placed_in pairs))
  first_came [] told own apart = nobody (any_none (Came x)) refl
  first_came (q ∷ earlier) told own apart = by (first_came earlier told.1 own.1 apart.1) where
    none_now : (Any (Came x) earlier → ⊥) → comes x.number q.placed ≡ false → Any (Came x) (q ∷ earlier) → ⊥
    none_now none off any = elim (any_cases (Came x) q earlier any) [
      | inl now ↦ false≢true (sym off ∙ comes_own x q.placed own.0 now)
      | inr before ↦ none before
    ]

    by : FirstCame earlier (first_of (comes x.number) (placed_in earlier)) → FirstCame (q ∷ earlier) (first_of (comes x.number) (placed_in (q ∷ earlier)))
    by (somebody p is from other) = somebody p (ap (λ o. or_this o (comes x.number q.placed) q.placed) is) from other
    by (nobody none is) = by_test (comes x.number q.placed)
        (λ now. let first = comes_first q earlier own.0 apart.0 told.0 none now in
        somebody q.placed (ap (λ o. or_this o (comes x.number q.placed) q.placed) is ∙ ap (λ b. or_this None b q.placed) now) first.0 first.1)
        (λ off. nobody (none_now none off) (ap (λ o. or_this o (comes x.number q.placed) q.placed) is ∙ ap (λ b. or_this None b q.placed) off))

  -- ---- so the server is the peer

  pub record IsServer (pairs : List Pair) : Type 0 where
    pub known : Any (Came x) pairs → side (server_or_asked x (server_of x.number (placed_in pairs))) ≡ ids.peer
    pub apart : side x.client ≡ side (server_or_asked x (server_of x.number (placed_in pairs))) → ⊥

  server_as : (pairs : List Pair) (e : Endpoint) → server_or_asked x (server_of x.number (placed_in pairs)) ≡ e → (Any (Came x) pairs → side e ≡ ids.peer) → (side x.client ≡ side e → ⊥) → IsServer pairs
  server_as pairs e is known apart = record {
    known = λ any. ap side is ∙ known any;
    apart = λ same. apart (same ∙ ap side is);
  }

  pub server_is : (pairs : List Pair) → Told x m wire ids pairs → AllByRecursion (IsOwn x) (placed_in pairs) → AllByRecursion (IsNamedApart x) (placed_in pairs) → (side x.client ≡ side x.asked → ⊥) → IsServer pairs
  server_is pairs told own named_apart asked_apart = by (first_went pairs told own) (first_came pairs told own named_apart) where
    by : FirstWent pairs (first_of (goes_on x.number) (placed_in pairs)) → FirstCame pairs (first_of (comes x.number) (placed_in pairs)) → IsServer pairs
    by (left_for p is to any) (somebody q first from other) = server_as pairs p.datagram.target (rw is refl) (λ any. to) (λ same. other (from ∙ sym to ∙ sym same))
    by (left_for p is to any) (nobody none first) = absurd (none any)
    by (stayed is) (somebody q first from other) = server_as pairs q.datagram.source (rw is (rw first refl)) (λ any. from) (λ same. other (sym same))
    by (stayed is) (nobody none first) = server_as pairs x.asked (rw is (rw first refl)) (λ any. absurd (none any)) asked_apart

  -- ---- and where it asks is where the opening went

  asked_here : (q : Pair) (earlier : List Pair) → IsOwn x q.placed → Says x m wire ids earlier q → q.placed.place ≡ Opens x → ids.asked ≡ host_name x.asked.address
  asked_here q earlier (as_talk at ends asks) told opens = let both : Opens x ≡ Talks x = sym opens ∙ at in absurd (cc)
  asked_here q earlier (as_request is begins source to) told opens = by told where
    out : GoesOut x m wire ids earlier q.placed.datagram q.label → ids.asked ≡ host_name x.asked.address
    out (asking is port host says) = sym host ∙ ap (λ (e : Endpoint). host_name e.address) to
    out (going_on packet is other there before says) = absurd (false≢true (sym ((told_of m wire).other packet other q.placed.datagram.payload says) ∙ begins))
    out (answering is before text spells) = absurd (false≢true (sym (error_begins (captured host_name Out q.placed.datagram) 5 text spells).0 ∙ begins))

    by : Says x m wire ids earlier q → ids.asked ≡ host_name x.asked.address
    by (sent from goes_out) = out goes_out
    by (taken off there c) = absurd (not_from x q.placed off source)

  pub asked_is : (pairs : List Pair) → Told x m wire ids pairs → AllByRecursion (IsOwn x) (placed_in pairs) → IsOpenedIn x (placed_in pairs) → ids.asked ≡ host_name x.asked.address
  asked_is [] told own is = absurd (any_none (λ (p : Placed). p.place ≡ Opens x) is)
  asked_is (q ∷ earlier) told own is = elim (any_cases (λ (p : Placed). p.place ≡ Opens x) q.placed (placed_in earlier) is) [
    | inl now ↦ asked_here q earlier own.0 told.0 now
    | inr before ↦ asked_is earlier told.1 own.1 before
  ]
