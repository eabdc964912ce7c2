-- At a server the rules say the same of what passed with the client, whether strays passed beside it or not.
use Rattle.std.proofs.Common.{◌≡◌, ◌⊎◌, ℕ, Bool, true, false, List, [], ◌∷◌, Option, Some, None, inl, inr, refl, sym, ap, subst, ◌∙◌, ◌==◌, ◌&&◌, ◌||◌, not, option_map, if◌then◌else◌}
use Rattle.std.specs.List.{AllByRecursion, filter}
use Rattle.std.proofs.lemmas.Bool.{false≢true}
use Rattle.tftp_packet.specs.Hosts.{Datagram, Header, PeerId, peer_of, same_peer}
use Rattle.tftp_packet.specs.{Server}
use Rattle.law_model.specs.Rules.{Route, asks, begins_error, begins_request, comes_in, first_of, goes_out, has_come_from, is_of_transfer, or_this, route_at_server, route_before, route_of, route_out, route_to_service, transfer_of}
use Rattle.law_model.specs.{PortRule}
use Rattle.law_end.specs.{Broken, IsRead, MessageBreaks, MessageBroken, OneEnded, Passes, Rule}
use Rattle.law_end.proofs.Division.RouteTests.{is_same}
use Rattle.law_end.proofs.FirstBroken.FirstRequests.{first_passes, or_some}
use Rattle.audit_flows.proofs.LinesLemmas.Lines.{by_test}
use Rattle.audit_spared.proofs.FairLemmas.Thinned.{filter_kept, filter_dropped, kept_or_not}

-- ---- the first of those that are kept

or_off : (o : Option Datagram) (d : Datagram) → or_this o false d ≡ o
or_off None d = refl
or_off (Some x) d = refl

first_kept : (test keep : Datagram → Bool) (ds : List Datagram) → AllByRecursion (λ d. keep d ≡ false → test d ≡ false) ds → first_of test (filter keep ds) ≡ first_of test ds
first_kept test keep [] all = refl
first_kept test keep (d ∷ ds) all = kept_or_not keep d
    (λ is. ap (first_of test) (filter_kept keep d ds is) ∙ ap (λ o. or_this o (test d) d) (first_kept test keep ds all.1))
    (λ off. ap (first_of test) (filter_dropped keep d ds off) ∙ first_kept test keep ds all.1 ∙ sym (ap (λ b. or_this (first_of test ds) b d) (all.0 off) ∙ or_off (first_of test ds) d))

first_all : (P : Datagram → Type 0) (test : Datagram → Bool) (ds : List Datagram) (f : Datagram) → AllByRecursion P ds → first_of test ds ≡ Some f → P f
first_all P test [] f all found = absurd (cc)
first_all P test (d ∷ ds) f all found = elim (or_some (first_of test ds) (test d) d f found) [
  | inl before ↦ first_all P test ds f all.1 before
  | inr this ↦ subst P this.2 all.0
]

and_off : (x : Bool) → (x && false) ≡ false
and_off true = refl
and_off false = refl

-- ---- what passed with another than the client is none of the transfer's

none_of : (b : Bool) (r s : Route) → is_of_transfer r ≡ false → is_of_transfer s ≡ false → is_of_transfer (if b then r else s) ≡ false
none_of true r s one other = one
none_of false r s one other = other

module _ (service : ℕ) (client : PeerId) where
  abbrev pub at : Header
  at = record { named = Server; service = service; rollover = None }

  abbrev pub keeps : Datagram → Bool
  keeps d = same_peer (peer_of d) client

  -- what passed with another asks nothing at the service port
  abbrev pub AreStrays : List Datagram → Type 0
  AreStrays ds = AllByRecursion (λ d. keeps d ≡ false → asks at d ≡ false) ds

  out_off : (ds : List Datagram) (d : Datagram) → keeps d ≡ false → is_of_transfer (route_out client ds d) ≡ false
  out_off ds d off = ap (λ b. is_of_transfer (if b then Route.Peer else if has_come_from (peer_of d) ds then (if begins_error d then Route.StrayAnswer else Route.NoStrayAnswer) else Route.WrongPort)) off
      ∙ none_of (has_come_from (peer_of d) ds) (if begins_error d then Route.StrayAnswer else Route.NoStrayAnswer) Route.WrongPort (none_of (begins_error d) Route.StrayAnswer Route.NoStrayAnswer refl refl) refl

  service_off : (d : Datagram) → keeps d ≡ false → is_of_transfer (route_to_service at client d) ≡ false
  service_off d off = ap (λ b. is_of_transfer (if not (d.local == service) then Route.ForeignPort else if not b then Route.ForeignPort else if begins_request d then Route.Request else Route.WrongPort)) off
      ∙ none_of (not (d.local == service)) Route.ForeignPort Route.ForeignPort refl refl

  stray_off : (own : Option ℕ) (ds : List Datagram) (d : Datagram) → keeps d ≡ false → is_of_transfer (route_at_server at client own ds d) ≡ false
  stray_off None ds d off = none_of (goes_out d) (if keeps d then Route.Peer else Route.WrongPort) (route_to_service at client d)
      (ap (λ b. is_of_transfer (if b then Route.Peer else Route.WrongPort)) off) (service_off d off)
  stray_off (Some own) ds d off = none_of (goes_out d)
      (if not (d.local == own) then Route.ForeignPort else route_out client ds d)
      (if not (d.local == own) || (begins_request d && (d.local == service)) then route_to_service at client d else if keeps d then (if begins_request d then Route.WrongPort else Route.Peer) else Route.Stray)
      (none_of (not (d.local == own)) Route.ForeignPort (route_out client ds d) refl (out_off ds d off))
      (none_of (not (d.local == own) || (begins_request d && (d.local == service))) (route_to_service at client d)
      (if keeps d then (if begins_request d then Route.WrongPort else Route.Peer) else Route.Stray) (service_off d off)
      (ap (λ b. is_of_transfer (if b then (if begins_request d then Route.WrongPort else Route.Peer) else Route.Stray)) off))

  -- ---- routes

  first_client : (ds : List Datagram) → AreStrays ds → (f : Datagram) → first_of (asks at) ds ≡ Some f → peer_of f ≡ client
  first_client ds strays f found = by_test (keeps f)
      (λ is. is_same (peer_of f) client is)
      (λ off. absurd (false≢true (sym (first_all (λ d. keeps d ≡ false → asks at d ≡ false) (asks at) ds f strays found off) ∙ first_passes (asks at) ds f found)))

  module _ (ds : List Datagram) (strays : AreStrays ds) where
    abbrev kept : List Datagram
    kept = filter keeps ds

    first_same : first_of (asks at) kept ≡ first_of (asks at) ds
    first_same = first_kept (asks at) keeps ds strays

    abbrev answers : PeerId → Datagram → Bool
    answers peer a = goes_out a && same_peer (peer_of a) peer

    own_answers : (ds : List Datagram) → AllByRecursion (λ d. keeps d ≡ false → answers client d ≡ false) ds
    own_answers [] = tt
    own_answers (d ∷ ds) = ((λ off. ap (λ b. goes_out d && b) off ∙ and_off (goes_out d)), own_answers ds)

    answered_same : first_of (answers client) kept ≡ first_of (answers client) ds
    answered_same = first_kept (answers client) keeps ds (own_answers ds)

    out_same : (d : Datagram) → keeps d ≡ true → route_out client kept d ≡ route_out client ds d
    out_same d is = ap (λ b. if b then Route.Peer else if has_come_from (peer_of d) kept then (if begins_error d then Route.StrayAnswer else Route.NoStrayAnswer) else Route.WrongPort) is
        ∙ sym (ap (λ b. if b then Route.Peer else if has_come_from (peer_of d) ds then (if begins_error d then Route.StrayAnswer else Route.NoStrayAnswer) else Route.WrongPort) is)

    server_same : (own : Option ℕ) (d : Datagram) → keeps d ≡ true → route_at_server at client own kept d ≡ route_at_server at client own ds d
    server_same None d is = refl
    server_same (Some own) d is = ap (λ r. if goes_out d then (if not (d.local == own) then Route.ForeignPort else r)
        else if not (d.local == own) || (begins_request d && (d.local == service)) then route_to_service at client d
        else if keeps d then (if begins_request d then Route.WrongPort else Route.Peer)
        else Route.Stray) (out_same d is)

    abbrev after : List Datagram → PeerId → Option Datagram → Datagram → Route
    after earlier peer own d = route_at_server at peer (option_map (λ a. a.local) own) earlier d

    abbrev by_first : List Datagram → Datagram → Option Datagram → Route
    by_first earlier d None = route_before at d
    by_first earlier d (Some f) = after earlier (peer_of f) (first_of (answers (peer_of f)) earlier) d

    route_by : (earlier : List Datagram) (d : Datagram) (o : Option Datagram) → first_of (asks at) earlier ≡ o → route_of at earlier d ≡ by_first earlier d o
    route_by earlier d None is = rw is refl
    route_by earlier d (Some f) is = rw is refl

    -- by whom the first request came
    pub route_same : (d : Datagram) → keeps d ≡ true → route_of at kept d ≡ route_of at ds d
    route_same d is = by (first_of (asks at) ds) refl where
      by : (o : Option Datagram) → first_of (asks at) ds ≡ o → route_of at kept d ≡ route_of at ds d
      by None none = route_by kept d None (first_same ∙ none) ∙ sym (route_by ds d None none)
      by (Some f) found =
          let peer : peer_of f ≡ client = first_client ds strays f found in
          route_by kept d (Some f) (first_same ∙ found)
          ∙ ap (λ p. after kept p (first_of (answers p) kept) d) peer
          ∙ ap (λ o. after kept client o d) answered_same
          ∙ server_same (option_map (λ a. a.local) (first_of (answers client) ds)) d is
          ∙ sym (ap (λ p. after ds p (first_of (answers p) ds) d) peer)
          ∙ sym (route_by ds d (Some f) found)

    -- a stray among them is none of the transfer's
    stray_route : (d : Datagram) → Passes at ds d → keeps d ≡ false → asks at d ≡ false → is_of_transfer (route_of at ds d) ≡ false
    stray_route d passes off plain = by (first_of (asks at) ds) refl where
      before : (b : Bool) → (comes_in d && begins_request d) ≡ b → (route_before at d ≡ Route.Peer) ⊎ (route_before at d ≡ Route.WrongPort)
      before false none = inl (ap (λ b. if b then (if d.local == service then Route.Request else Route.WrongPort) else Route.Peer) none)
      before true is =
          let there : (d.local == service) ≡ false = sym (ap (λ b. b && (d.local == service)) is) ∙ plain in
          inr (ap (λ b. if b then (if d.local == service then Route.Request else Route.WrongPort) else Route.Peer) is ∙ ap (λ b. if b then Route.Request else Route.WrongPort) there)

      by : (o : Option Datagram) → first_of (asks at) ds ≡ o → is_of_transfer (route_of at ds d) ≡ false
      by None none = elim (before (comes_in d && begins_request d) refl) [
        | inl peer ↦ absurd (passes.lawful Rule.NoRequest (none, route_by ds d None none ∙ peer))
        | inr wrong ↦ ap is_of_transfer (route_by ds d None none ∙ wrong)
      ]
      by (Some f) found =
          ap is_of_transfer (route_by ds d (Some f) found)
          ∙ ap (λ p. is_of_transfer (after ds p (first_of (answers p) ds) d)) (first_client ds strays f found)
          ∙ stray_off (option_map (λ a. a.local) (first_of (answers client) ds)) ds d off

  -- ---- the transfer's datagrams

  transfer_same : (ds : List Datagram) → OneEnded at ds → AreStrays ds → transfer_of at (filter keeps ds) ≡ transfer_of at ds
  transfer_same [] passes strays = refl
  transfer_same (d ∷ ds) passes strays = kept_or_not keeps d
      (λ is. ap (transfer_of at) (filter_kept keeps d ds is)
      ∙ (λ i. if is_of_transfer (route_same ds strays.1 d is i) then d ∷ transfer_same ds passes.1 strays.1 i else transfer_same ds passes.1 strays.1 i))
      (λ off. ap (transfer_of at) (filter_dropped keeps d ds off)
      ∙ transfer_same ds passes.1 strays.1
      ∙ sym (ap (λ b. if b then d ∷ transfer_of at ds else transfer_of at ds) (stray_route ds strays.1 d passes.0 off (strays.0 off))))

  -- ---- so what passes without the strays passes with them

  module _ (ds : List Datagram) (lawful : OneEnded at ds) (strays : AreStrays ds) (d : Datagram) (is : keeps d ≡ true) where
    route : route_of at (filter keeps ds) d ≡ route_of at ds d
    route = route_same ds strays d is

    message_kept : (rule : Rule) → MessageBroken at ds d rule → MessageBroken at (filter keeps ds) d rule
    message_kept rule broken = record {
      message = broken.message;
      says = record { routed = ap is_of_transfer route ∙ broken.says.routed; spells = broken.says.spells };
      asked = broken.asked;
      first = (broken.first.0, first_same ds strays ∙ broken.first.1, broken.first.2);
      breaks = subst (λ l. MessageBreaks at broken.asked l d.dir broken.message rule) (sym (transfer_same ds lawful strays)) broken.breaks;
    }

    broken_kept : (rule : Rule) → Broken at ds d rule → Broken at (filter keeps ds) d rule
    broken_kept (Rule.Port PortRule.Foreign) broken = route ∙ broken
    broken_kept (Rule.Port PortRule.Wrong) broken = route ∙ broken
    broken_kept (Rule.Port PortRule.BadAnswer) broken = elim broken [ inl none ↦ inl (route ∙ none) | inr other ↦ inr (route ∙ other.0, other.1) ]
    broken_kept Rule.NoRequest broken = (first_same ds strays ∙ broken.0, route ∙ broken.1)
    broken_kept (Rule.Malformed fault) broken = (ap is_of_transfer route ∙ broken.0, broken.1)
    broken_kept (Rule.Agreement rule) broken = message_kept (Rule.Agreement rule) broken
    broken_kept (Rule.Block rule) broken = message_kept (Rule.Block rule) broken
    broken_kept Rule.WrongKind broken = message_kept Rule.WrongKind broken
    broken_kept Rule.AfterError broken = message_kept Rule.AfterError broken
    broken_kept Rule.RequestChanged broken = message_kept Rule.RequestChanged broken
    broken_kept Rule.RequestAfterStart broken = message_kept Rule.RequestAfterStart broken
    broken_kept Rule.ReplyChanged broken = message_kept Rule.ReplyChanged broken
    broken_kept Rule.OackChanged broken = message_kept Rule.OackChanged broken
    broken_kept Rule.OackAfterStart broken = message_kept Rule.OackAfterStart broken

    pub passes_with : Passes at (filter keeps ds) d → Passes at ds d
    passes_with passes = record {
      read = subst (λ r. IsRead r d) route passes.read;
      lawful = λ rule broken. passes.lawful rule (broken_kept rule broken);
    }

    -- ---- and what passes with the strays passes without them

    message_there : (rule : Rule) → MessageBroken at (filter keeps ds) d rule → MessageBroken at ds d rule
    message_there rule broken = record {
      message = broken.message;
      says = record { routed = ap is_of_transfer (sym route) ∙ broken.says.routed; spells = broken.says.spells };
      asked = broken.asked;
      first = (broken.first.0, sym (first_same ds strays) ∙ broken.first.1, broken.first.2);
      breaks = subst (λ l. MessageBreaks at broken.asked l d.dir broken.message rule) (transfer_same ds lawful strays) broken.breaks;
    }

    broken_there : (rule : Rule) → Broken at (filter keeps ds) d rule → Broken at ds d rule
    broken_there (Rule.Port PortRule.Foreign) broken = sym route ∙ broken
    broken_there (Rule.Port PortRule.Wrong) broken = sym route ∙ broken
    broken_there (Rule.Port PortRule.BadAnswer) broken = elim broken [ inl none ↦ inl (sym route ∙ none) | inr other ↦ inr (sym route ∙ other.0, other.1) ]
    broken_there Rule.NoRequest broken = (sym (first_same ds strays) ∙ broken.0, sym route ∙ broken.1)
    broken_there (Rule.Malformed fault) broken = (ap is_of_transfer (sym route) ∙ broken.0, broken.1)
    broken_there (Rule.Agreement rule) broken = message_there (Rule.Agreement rule) broken
    broken_there (Rule.Block rule) broken = message_there (Rule.Block rule) broken
    broken_there Rule.WrongKind broken = message_there Rule.WrongKind broken
    broken_there Rule.AfterError broken = message_there Rule.AfterError broken
    broken_there Rule.RequestChanged broken = message_there Rule.RequestChanged broken
    broken_there Rule.RequestAfterStart broken = message_there Rule.RequestAfterStart broken
    broken_there Rule.ReplyChanged broken = message_there Rule.ReplyChanged broken
    broken_there Rule.OackChanged broken = message_there Rule.OackChanged broken
    broken_there Rule.OackAfterStart broken = message_there Rule.OackAfterStart broken

    passes_without : Passes at ds d → Passes at (filter keeps ds) d
    passes_without passes = record {
      read = subst (λ r. IsRead r d) (sym route) passes.read;
      lawful = λ rule broken. passes.lawful rule (broken_there rule broken);
    }

  pub lawful_kept : (ds : List Datagram) → OneEnded at ds → AreStrays ds → OneEnded at (filter keeps ds)
  lawful_kept [] lawful strays = tt
  lawful_kept (d ∷ ds) lawful strays = kept_or_not keeps d
      (λ is. subst (OneEnded at) (sym (filter_kept keeps d ds is)) (passes_without ds lawful.1 strays.1 d is lawful.0, lawful_kept ds lawful.1 strays.1))
      (λ off. subst (OneEnded at) (sym (filter_dropped keeps d ds off)) (lawful_kept ds lawful.1 strays.1))
