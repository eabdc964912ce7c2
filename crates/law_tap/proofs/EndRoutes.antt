-- Routes at an end, as far as they do not depend on what is missing: what is of the transfer is a request, or has the peer of what shows
-- the other end.
use Rattle.std.proofs.Common.{◌≡◌, ◌⊎◌, Bool, true, false, List, [], ◌∷◌, Contains, Some, None, inl, inr, refl, sym, subst, ap, ◌∙◌, ◌&&◌, ◌==◌}
use Rattle.std.proofs.lemmas.Bool.{true≢false, cases_Bool, and_from, and_parts, eqb-true, eq-eqb}
use Rattle.tftp_packet.specs.{End, Client, Server, Out}
use Rattle.tftp_packet.specs.Hosts.{Datagram, Header, PeerId, peer_of}
use Rattle.law_model.specs.Rules.{Route, goes_out, comes_in, begins_request, is_from_client, port_of_server, asks, first_of, route_after, route_of, is_of_transfer, transfer_of, SaysUnknownId}
use Rattle.law_model.proofs.ModelLemmas.Members.{contains_first, contains_later, contains_cases, contains_none}
use Rattle.law_end.specs.{IsRead, OneEnded, Rule}
use Rattle.law_end.proofs.FirstBroken.FirstRequests.{asks_is, first_stays, first_passes}
use Rattle.law_end.proofs.FirstBroken.FirstAnswered.{main_none, main_some}
use Rattle.law_end.proofs.Division.RouteTests.{in_true, out_true, two_ways}
use Rattle.law_end.proofs.Division.RoutesBack.{dir_in, this_one, map_some, map_none, c_request, c_peer, c_stray, s_request, s_peer, s_stray, no_stray_before}

-- the first datagram that passes this test shows who the other end is
abbrev pub shows_other : Header → End → Datagram → Bool
shows_other h Client = comes_in
shows_other h Server = asks h

-- nothing is between the two ends before the first request
abbrev pub AskedFirst : Header → List Datagram → Type 0
AskedFirst h [] = Unit {0}
AskedFirst h (d ∷ earlier) = (first_of (asks h) earlier ≡ None → route_of h earlier d ≡ Route.Peer → ⊥) × AskedFirst h earlier

pub asked_first : (h : Header) (earlier : List Datagram) → OneEnded h earlier → AskedFirst h earlier
asked_first h [] passes = tt
asked_first h (d ∷ earlier) passes = (λ none is. passes.0.lawful Rule.NoRequest (none, is), asked_first h earlier passes.1)

module _ (h : Header) where
  -- what a datagram of the transfer is
  abbrev pub IsOfOther : List Datagram → Datagram → Type 0
  IsOfOther seen x = (asks h x ≡ true) ⊎ ((f : Datagram) × (first_of (shows_other h h.named) seen ≡ Some f) × (peer_of x ≡ peer_of f))

  asks_from : (e : End) → h.named ≡ e → (x : Datagram) → (is_from_client e x && begins_request x && (port_of_server e x == h.service)) ≡ true → asks h x ≡ true
  asks_from e is x t = subst (λ n. (is_from_client n x && begins_request x && (port_of_server n x == h.service)) ≡ true) (sym is) t

  asks_to : (e : End) → h.named ≡ e → (x : Datagram) → asks h x ≡ true → (port_of_server e x == h.service) ≡ true
  asks_to e is x t = (and_parts (is_from_client e x && begins_request x) (port_of_server e x == h.service) (subst (λ n. (is_from_client n x && begins_request x && (port_of_server n x == h.service)) ≡ true) is t)).1

  -- ---- after the first request

  module _ (before : List Datagram) (x first : Datagram) (some : first_of (asks h) before ≡ Some first) where
    by_client : h.named ≡ Client → (r : Route) → route_after Client h first before x ≡ r → is_of_transfer r ≡ true
        → (asks h x ≡ true) ⊎ ((f : Datagram) × (first_of comes_in (x ∷ before) ≡ Some f) × (peer_of x ≡ peer_of f))
    by_client named Route.Request is goes =
        let a = c_request h before x first.local (peer_of first) _ is in
        let there = eqb-true first.remote h.service (asks_to Client named first (first_passes (asks h) before first some)) in
        inl (asks_from Client named x (and_from _ _ (and_from _ _ a.2 a.3) (eq-eqb x.remote h.service (ap (λ (p : PeerId). p.port) a.1 ∙ there))))
    by_client named Route.Peer is goes =
        let a = c_peer h before x first.local (peer_of first) _ is in
        elim a.1 [
          | inl y ↦ inr (x, this_one comes_in x before (map_none peer_of (first_of comes_in before) y.1) (in_true x (dir_in x y.0)), refl)
          | inr y ↦ let (f, at, same) = map_some peer_of (first_of comes_in before) y.0 y.1 in inr (f, first_stays comes_in x f before at, y.2 ∙ sym same)
        ]
    by_client named _ is goes = absurd (true≢false (sym goes))

    by_server : h.named ≡ Server → (r : Route) → route_after Server h first before x ≡ r → is_of_transfer r ≡ true
        → (asks h x ≡ true) ⊎ ((f : Datagram) × (first_of (asks h) (x ∷ before) ≡ Some f) × (peer_of x ≡ peer_of f))
    by_server named Route.Request is goes =
        let a = s_request h before x (peer_of first) _ is in
        inl (asks_from Server named x (and_from _ _ (and_from _ _ (in_true x (dir_in x a.2)) a.3) (eq-eqb x.local h.service a.0)))
    by_server named Route.Peer is goes = let a = s_peer h before x (peer_of first) _ is in inr (first, first_stays (asks h) x first before some, a.0)
    by_server named _ is goes = absurd (true≢false (sym goes))

    by_end : (e : End) → h.named ≡ e → route_after e h first before x ≡ route_of h before x → is_of_transfer (route_of h before x) ≡ true
        → (asks h x ≡ true) ⊎ ((f : Datagram) × (first_of (shows_other h e) (x ∷ before) ≡ Some f) × (peer_of x ≡ peer_of f))
    by_end Client named is goes = by_client named (route_of h before x) is goes
    by_end Server named is goes = by_server named (route_of h before x) is goes

  of_other : (before : List Datagram) (x : Datagram) → is_of_transfer (route_of h before x) ≡ true → (first_of (asks h) before ≡ None → route_of h before x ≡ Route.Peer → ⊥) → IsOfOther (x ∷ before) x
  of_other before x goes asked = elim (two_ways (first_of (asks h) before)) [
    | inr some ↦ let e : route_of h before x ≡ route_after h.named h some.0 before x = rw some.1 refl in by_end before x some.0 some.1 h.named refl (sym e) goes
    | inl none ↦ inl (asks_is h before x none (by (route_of h before x) refl goes (asked none)))
  ]
    where
      by : (r : Route) → route_of h before x ≡ r → is_of_transfer r ≡ true → (route_of h before x ≡ Route.Peer → ⊥) → route_of h before x ≡ Route.Request
      by Route.Request is t not_peer = is
      by Route.Peer is t not_peer = absurd (not_peer is)
      by _ is t not_peer = absurd (true≢false (sym t))

  -- ---- in a list

  later_other : (d x : Datagram) (seen : List Datagram) → IsOfOther seen x → IsOfOther (d ∷ seen) x
  later_other d x seen (inl t) = inl t
  later_other d x seen (inr (f, at, same)) = inr (f, first_stays (shows_other h h.named) d f seen at, same)

  -- each datagram of the transfer
  pub transfer_other : (seen : List Datagram) → AskedFirst h seen → (x : Datagram) → Contains (transfer_of h seen) x → IsOfOther seen x
  transfer_other [] asked x at = absurd (contains_none x at)
  transfer_other (d ∷ seen) asked x at = elim (cases_Bool (is_of_transfer (route_of h seen d))) [
    | inr off ↦ later_other d x seen (transfer_other seen asked.1 x (subst (λ l. Contains l x) (main_none (is_of_transfer (route_of h seen d)) d (transfer_of h seen) off) at))
    | inl goes ↦ elim (contains_cases d (transfer_of h seen) x (subst (λ l. Contains l x) (main_some (is_of_transfer (route_of h seen d)) d (transfer_of h seen) goes) at)) [
      | inl now ↦ subst (IsOfOther (d ∷ seen)) now (of_other seen d goes asked.0)
      | inr past ↦ later_other d x seen (transfer_other seen asked.1 x past)
    ]
  ]

  -- what is of the transfer is in the list
  pub transfer_there : (seen : List Datagram) (x : Datagram) → Contains (transfer_of h seen) x → Contains seen x
  transfer_there [] x at = absurd (contains_none x at)
  transfer_there (d ∷ seen) x at = elim (cases_Bool (is_of_transfer (route_of h seen d))) [
    | inr off ↦ contains_later d seen x (transfer_there seen x (subst (λ l. Contains l x) (main_none (is_of_transfer (route_of h seen d)) d (transfer_of h seen) off) at))
    | inl goes ↦ elim (contains_cases d (transfer_of h seen) x (subst (λ l. Contains l x) (main_some (is_of_transfer (route_of h seen d)) d (transfer_of h seen) goes) at)) [
      | inl now ↦ subst (Contains (d ∷ seen)) now (contains_first d seen)
      | inr past ↦ contains_later d seen x (transfer_there seen x past)
    ]
  ]

  pub with_more : (d : Datagram) (seen : List Datagram) (x : Datagram) → Contains (transfer_of h seen) x → Contains (transfer_of h (d ∷ seen)) x
  with_more d seen x at = elim (cases_Bool (is_of_transfer (route_of h seen d))) [
    | inr off ↦ subst (λ l. Contains l x) (sym (main_none (is_of_transfer (route_of h seen d)) d (transfer_of h seen) off)) at
    | inl goes ↦ subst (λ l. Contains l x) (sym (main_some (is_of_transfer (route_of h seen d)) d (transfer_of h seen) goes)) (contains_later d (transfer_of h seen) x at)
  ]

  pub with_this : (d : Datagram) (seen : List Datagram) → is_of_transfer (route_of h seen d) ≡ true → Contains (transfer_of h (d ∷ seen)) d
  with_this d seen goes = subst (λ l. Contains l d) (sym (main_some (is_of_transfer (route_of h seen d)) d (transfer_of h seen) goes)) (contains_first d (transfer_of h seen))

  -- ---- what an end sends and is no answer to a stray is of the transfer

  stray_comes : (e : End) (before : List Datagram) (x first : Datagram) → route_after e h first before x ≡ Route.Stray → goes_out x ≡ false
  stray_comes Client before x first is = (c_stray h before x first.local (peer_of first) _ is).1
  stray_comes Server before x first is = (s_stray h before x (peer_of first) _ is).3

  no_stray_out : (before : List Datagram) (x : Datagram) → x.dir ≡ Out → route_of h before x ≡ Route.Stray → ⊥
  no_stray_out before x out is = elim (two_ways (first_of (asks h) before)) [
    | inl none ↦ no_stray_before h before x Route.Stray (λ e. cc) (λ e. cc) (λ e. cc) none is
    | inr some ↦
        let e : route_of h before x ≡ route_after h.named h some.0 before x = rw some.1 refl in
        true≢false (sym (out_true x out) ∙ stray_comes h.named before x some.0 (sym e ∙ is))
  ]

  pub sent_there : (seen : List Datagram) → OneEnded h seen → (x : Datagram) → Contains seen x → x.dir ≡ Out → (SaysUnknownId x → ⊥) → Contains (transfer_of h seen) x
  sent_there [] passes x at out no_answer = absurd (contains_none x at)
  sent_there (d ∷ seen) passes x at out no_answer = elim (contains_cases d seen x at) [
    | inr past ↦ with_more d seen x (sent_there seen passes.1 x past out no_answer)
    | inl now ↦ subst (Contains (transfer_of h (d ∷ seen))) now (with_this d seen (by (route_of h seen d) refl passes.0.read (subst (λ (y : Datagram). y.dir ≡ Out) (sym now) out) (subst (λ (y : Datagram). SaysUnknownId y → ⊥) (sym now) no_answer)))
  ]
    where
      by : (r : Route) → route_of h seen d ≡ r → IsRead r d → d.dir ≡ Out → (SaysUnknownId d → ⊥) → is_of_transfer (route_of h seen d) ≡ true
      by Route.Request is read way plain = ap is_of_transfer is
      by Route.Peer is read way plain = ap is_of_transfer is
      by Route.Stray is read way plain = absurd (no_stray_out seen d way is)
      by Route.StrayAnswer is read way plain = absurd (plain read)
      by _ is read way plain = absurd read
