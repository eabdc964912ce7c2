-- No server's view is refused without a doubt, where captures of lawful transfers are interleaved.
use Rattle.std.proofs.Common.{◌≡◌, ◌⊎◌, ℕ, Bool, true, false, List, [], ◌∷◌, ◌++◌, Option, Some, None, Contains, inl, inr, refl, sym, ap, subst, ◌∙◌, ◌==◌, ◌&&◌, ◌||◌, not, map, reverse, filter, option_map, if◌then◌else◌}
use Rattle.std.specs.List.{AllByRecursion, flat_map, list_any}
use Rattle.std.proofs.lemmas.Bool.{false≢true, or_cases, or_left, or_right, and_from, and_parts, eq-eqb}
use Rattle.std.proofs.lemmas.List.{reverse-reverse}
use Rattle.tftp_packet.specs.Hosts.{Datagram, PeerId, peer_of}
use Rattle.law_model.specs.Rules.{asks, first_of, or_this}
use Rattle.law_end.specs.{OneEnded, IsLawful, IsRefused, Passes, Rule}
use Rattle.law_end.proofs.Division.RouteTests.{same_is as peers_same, is_same as same_peers}
use Rattle.law_end.proofs.Whole.TwoEnds.{lawful}
use Rattle.audit_flows.specs.Lines.{Recorded, Placed, same_address, same_endpoint, other_of, is_of, is_request, transfer_of, agrees_late, begins_error, begins_request, is_late, may_be_earlier, rests_on_terms, says_first_word, speaks_first}
use Rattle.audit_flows.specs.Lines.Doubting.{before_talk, is_other_talk, line_before, may_follow}
use Rattle.audit_flows.specs.{Address, Endpoint, Place, Opens, Repeats, Talks, Apart, Beside, Nowhere, Transfer}
use Rattle.audit_flows.proofs.LinesLemmas.Endpoints.{is_same, same_itself}
use Rattle.audit_flows.proofs.LinesLemmas.Lines.{by_test}
use Rattle.audit_flows.specs.Transfers.{asked_of as asked_by, client_view, placed, place_of, comes, goes_on, answered_by, went_on_with, server_of, is_server, is_at_server, has_host, has_port, goes_to_asked, is_beside, is_doubted, is_doubtful, is_doubtful_at_server, is_led_astray, some_of, comes_of_earlier, tells_strays}
use Rattle.audit_spared.proofs.FairLemmas.Thinned.{filter_kept, filter_dropped, kept_or_not}
use Rattle.audit_spared.specs.Spared.Seen.{HasNoSilence, is_with}
use Rattle.audit_spared.specs.Spared.{AreCaptures, AsksInTime, as_served, at_server_of, captured_there, goes_from, is_doubted_there, is_shared, is_talk_of_another, needs_doubt, seen_at_server, server_saw, transfer_beside, went_out}
use Rattle.audit_spared.proofs.SparedLemmas.Basics.{all_last, all_map, doubtful_is, or_more}
use Rattle.audit_spared.proofs.SparedLemmas.Lists.{all_flat, all_from, filter_all, filter_with, map_reversed}
use Rattle.audit_spared.proofs.SparedLemmas.Requests.{all_second as all_each}
use Rattle.audit_spared.proofs.SparedLemmas.Stands.{new, Has}
use Rattle.audit_spared.proofs.SparedLemmas.Places.{of_talk, no_request_talks}
use Rattle.audit_spared.proofs.SparedLemmas.Talks.{first_some}
use Rattle.audit_spared.proofs.SparedLemmas.Captured.{captures_at}
use Rattle.audit_spared.proofs.SparedLemmas.Earlier.{taken_or}
use Rattle.audit_spared.proofs.SparedLemmas.Spared.{TakenAt, doubted_or, of_transfer}
use Rattle.audit_spared.proofs.SparedLemmas.Whole.{AreAll, IsApart, all_apart, asked_of, kept_whole}
use Rattle.audit_spared.proofs.SparedLemmas.ServedLaw.{IsServed, follows_served, served_before, name, peer_seen}
use Rattle.audit_spared.proofs.SparedLemmas.ServedViews.{IsFair, seen, stated}
use Rattle.audit_spared.proofs.SparedLemmas.ServedTalks.{TalksWith, Told, doubtful, still, told, told_more, told_none, told_one}
use Rattle.audit_spared.proofs.SparedLemmas.ServedStrays.{AreStrays, keeps, lawful_kept, passes_with}

-- ---- who the server is

module _ (c : Endpoint) (n : ℕ) (o : Endpoint) (whole : List Placed) (all : AllByRecursion (TalksWith c n o) whole) where
  -- the first that passes a test is one of them
  first_one : (test : Placed → Bool) (ps : List Placed) (q : Placed) → AllByRecursion (TalksWith c n o) ps → first_of test ps ≡ Some q → TalksWith c n o q × (test q ≡ true)
  first_one test [] q every found = absurd (cc)
  first_one test (p ∷ ps) q every found = by (first_one test ps q every.1) (first_of test ps) refl where
    by : (first_of test ps ≡ Some q → TalksWith c n o q × (test q ≡ true)) → (first : Option Placed) → first_of test ps ≡ first → TalksWith c n o q × (test q ≡ true)
    by earlier (Some r) is = earlier (is ∙ sym (ap (λ f. or_this f (test p) p) is) ∙ found)
    by earlier None is = by_test (test p)
        (λ this.
        let both : Some p ≡ Some q = sym (ap (λ f. or_this f (test p) p) is ∙ ap (λ b. or_this None b p) this) ∙ found in
        let same : p ≡ q = cc in (subst (TalksWith c n o) same every.0, subst (λ r. test r ≡ true) same this))
        (λ off. let both : None ≡ Some q = sym (ap (λ f. or_this f (test p) p) is ∙ ap (λ b. or_this None b p) off) ∙ found in absurd (cc))

  went_to : (q : Placed) → TalksWith c n o q → goes_on n q ≡ true → q.datagram.target ≡ o
  went_to q with is = by q.place refl where
    by : (place : Place) → q.place ≡ place → q.datagram.target ≡ o
    by (Talks y) at =
        let on : goes_on n (new q.datagram q.moment (Talks y)) ≡ true = subst (λ p. goes_on n (new q.datagram q.moment p) ≡ true) at is in
        let parts = and_parts ((y.number == n) && same_endpoint q.datagram.source y.client) (not (begins_error q.datagram.payload)) on in
        let two = and_parts (y.number == n) (same_endpoint q.datagram.source y.client) parts.0 in
        let here = with y at two.0 in
        let from : same_endpoint q.datagram.source c ≡ true = subst (λ e. same_endpoint q.datagram.source e ≡ true) here.0 two.1 in
        sym (ap (λ b. if b then q.datagram.target else q.datagram.source) from) ∙ here.1
    by (Opens y) at = absurd (false≢true (subst (λ p. goes_on n (new q.datagram q.moment p) ≡ true) at is))
    by (Repeats y) at = absurd (false≢true (subst (λ p. goes_on n (new q.datagram q.moment p) ≡ true) at is))
    by (Apart e) at = absurd (false≢true (subst (λ p. goes_on n (new q.datagram q.moment p) ≡ true) at is))
    by (Beside y) at = absurd (false≢true (subst (λ p. goes_on n (new q.datagram q.moment p) ≡ true) at is))
    by Nowhere at = absurd (false≢true (subst (λ p. goes_on n (new q.datagram q.moment p) ≡ true) at is))

  came_from : (q : Placed) → TalksWith c n o q → comes n q ≡ true → q.datagram.source ≡ o
  came_from q with is = by q.place refl where
    by : (place : Place) → q.place ≡ place → q.datagram.source ≡ o
    by (Talks y) at =
        let on : comes n (new q.datagram q.moment (Talks y)) ≡ true = subst (λ p. comes n (new q.datagram q.moment p) ≡ true) at is in
        let two = and_parts (y.number == n) (same_endpoint q.datagram.target y.client) on in
        let here = with y at two.0 in
        let to : q.datagram.target ≡ c = is_same q.datagram.target y.client two.1 ∙ here.0 in
        by_test (same_endpoint q.datagram.source c)
        (λ from. is_same q.datagram.source c from ∙ sym to ∙ sym (ap (λ b. if b then q.datagram.target else q.datagram.source) from) ∙ here.1)
        (λ off. sym (ap (λ b. if b then q.datagram.target else q.datagram.source) off) ∙ here.1)
    by (Opens y) at = absurd (false≢true (subst (λ p. comes n (new q.datagram q.moment p) ≡ true) at is))
    by (Repeats y) at = absurd (false≢true (subst (λ p. comes n (new q.datagram q.moment p) ≡ true) at is))
    by (Apart e) at = absurd (false≢true (subst (λ p. comes n (new q.datagram q.moment p) ≡ true) at is))
    by (Beside y) at = absurd (false≢true (subst (λ p. comes n (new q.datagram q.moment p) ≡ true) at is))
    by Nowhere at = absurd (false≢true (subst (λ p. comes n (new q.datagram q.moment p) ≡ true) at is))

  same_there : same_address o.address o.address ≡ true
  same_there = (and_parts (o.port == o.port) (same_address o.address o.address) (same_itself o)).1

  -- so this is the server
  server_is : list_any (comes n) whole ≡ true → is_server n whole o ≡ true
  server_is came = by (first_of (goes_on n) whole) refl where
    went : (q : Placed) → first_of (goes_on n) whole ≡ Some q → went_on_with n whole ≡ Some o
    went q found =
        let (with, on) = first_one (goes_on n) whole q all found in
        ap (option_map (λ p. p.datagram.target)) found ∙ ap Some (went_to q with on)

    by : (first : Option Placed) → first_of (goes_on n) whole ≡ first → is_server n whole o ≡ true
    by (Some q) found =
        let on = went q found in
        let server : server_of n whole ≡ Some o = rw on refl in
        and_from (has_port o (server_of n whole)) (has_host o (asked_by n whole) || has_host o (answered_by n whole) || has_host o (went_on_with n whole))
        (ap (has_port o) server ∙ eq-eqb o.port o.port refl)
        (or_right (has_host o (asked_by n whole) || has_host o (answered_by n whole)) (has_host o (went_on_with n whole)) (ap (has_host o) on ∙ same_there))
    by None found =
        let (q, first) = first_some (comes n) whole came in
        let (with, comes_in) = first_one (comes n) whole q all first in
        let answered : answered_by n whole ≡ Some o = ap (option_map (λ p. p.datagram.source)) first ∙ ap Some (came_from q with comes_in) in
        let none : went_on_with n whole ≡ None = ap (option_map (λ p. p.datagram.target)) found in
        let server : server_of n whole ≡ Some o = rw none answered in
        and_from (has_port o (server_of n whole)) (has_host o (asked_by n whole) || has_host o (answered_by n whole) || has_host o (went_on_with n whole))
        (ap (has_port o) server ∙ eq-eqb o.port o.port refl)
        (or_left (has_host o (asked_by n whole) || has_host o (answered_by n whole)) (has_host o (went_on_with n whole))
        (or_right (has_host o (asked_by n whole)) (has_host o (answered_by n whole)) (ap (has_host o) answered ∙ same_there)))

-- ---- what is of a transfer passed with its client, and a request was sent by it

abbrev IsOwnOf : Endpoint → ℕ → Placed → Type 0
IsOwnOf c n q = is_of n q ≡ true → (is_with c q.datagram ≡ true) × (is_request q ≡ true → goes_from c q.datagram ≡ true)

abbrev AreOwnOf : Endpoint → ℕ → List Placed → Type 0
AreOwnOf c n ps = AllByRecursion (IsOwnOf c n) ps

own_more : (c : Endpoint) (n : ℕ) (p : Placed) (older : List Placed) → is_of n p ≡ false → AreOwnOf c n older → AreOwnOf c n (p ∷ older)
own_more c n p older off before = ((λ is. absurd (false≢true (sym off ∙ is))), before)

module _ (Late : Type 0) (write : Address → List ℕ) (host : Address) (c : Endpoint) where
  own_one : (n : ℕ) (k : List Recorded) (older kp rest : List Placed) (x : Transfer) (d : Recorded) (now : ℕ) (place : Place) → is_with c d ≡ true → place ≡ place_of [] older now d
      → Has c k (new d now place ∷ older) (new d now place ∷ kp) rest x → IsServed Late write host c k → is_of n (new d now place) ≡ true → AreOwnOf c n older → AreOwnOf c n (new d now place ∷ older)
  own_one n k older kp rest x d now place with at has served of before = (
    (λ is. (with, λ request. (and_parts (goes_from c d) (begins_request d.payload) (sym has.known.0.kind ∙ request)).0)),
    before,
  )

-- ---- the view with the client alone

module _ (keep : Datagram → Bool) (at : Placed → Bool) (of : Placed → Bool) (see own : Placed → Datagram) where
  record Fits (q : Placed) : Type 0 where
    mine : of q ≡ true → (at q ≡ true) × (see q ≡ own q) × (keep (see q) ≡ true)
    others : of q ≡ false → at q ≡ true → keep (see q) ≡ false

  filtered : (ps : List Placed) → AllByRecursion Fits ps → filter keep (map see (filter at ps)) ≡ map own (filter of ps)
  filtered [] all = refl
  filtered (p ∷ ps) all = kept_or_not of p
      (λ is.
      let (there, same, kept) = all.0.mine is in
      ap (λ l. filter keep (map see l)) (filter_kept at p ps there)
      ∙ filter_kept keep (see p) (map see (filter at ps)) kept
      ∙ (λ i. same i ∷ filtered ps all.1 i)
      ∙ sym (ap (map own) (filter_kept of p ps is)))
      (λ off. kept_or_not at p
      (λ there. ap (λ l. filter keep (map see l)) (filter_kept at p ps there)
      ∙ filter_dropped keep (see p) (map see (filter at ps)) (all.0.others off there)
      ∙ filtered ps all.1
      ∙ sym (ap (map own) (filter_dropped of p ps off)))
      (λ gone. ap (λ l. filter keep (map see l)) (filter_dropped at p ps gone)
      ∙ filtered ps all.1
      ∙ sym (ap (map own) (filter_dropped of p ps off))))

-- ---- each of the recording fits

-- what the server saw and is not of the transfer passed beside it
seen_beside : (n : ℕ) (whole : List Placed) (q : Placed) → is_of n q ≡ false → is_at_server n whole q ≡ true → is_beside q ≡ true
seen_beside n whole q off there = by q.place refl where
  by : (place : Place) → q.place ≡ place → is_beside q ≡ true
  by (Opens y) at = absurd (false≢true (sym off ∙ subst (λ p. is_of n (new q.datagram q.moment p) ≡ true) (sym at) (subst (λ p. is_at_server n whole (new q.datagram q.moment p) ≡ true) at there)))
  by (Repeats y) at = absurd (false≢true (sym off ∙ subst (λ p. is_of n (new q.datagram q.moment p) ≡ true) (sym at) (subst (λ p. is_at_server n whole (new q.datagram q.moment p) ≡ true) at there)))
  by (Talks y) at = absurd (false≢true (sym off ∙ subst (λ p. is_of n (new q.datagram q.moment p) ≡ true) (sym at)
      (and_parts (y.number == n) (is_server n whole (other_of y.client q.datagram) || goes_to_asked y q.datagram) (subst (λ p. is_at_server n whole (new q.datagram q.moment p) ≡ true) at there)).0))
  by (Apart e) at = absurd (false≢true (subst (λ p. is_at_server n whole (new q.datagram q.moment p) ≡ true) at there))
  by (Beside y) at = subst (λ p. is_beside (new q.datagram q.moment p) ≡ true) (sym at) refl
  by Nowhere at = absurd (false≢true (subst (λ p. is_at_server n whole (new q.datagram q.moment p) ≡ true) at there))

module _ (write : Address → List ℕ) (write_one : (a b : Address) → write a ≡ write b → a ≡ b) (host : Address) (x : Transfer) (whole : List Placed) where
  abbrev c : Endpoint
  c = x.client

  abbrev client : PeerId
  client = name write host c c

  abbrev see : Placed → Datagram
  see = seen_at_server write x whole

  abbrev FitsAll : List Placed → Type 0
  FitsAll ps = AllByRecursion (Fits (keeps 69 client) (is_at_server x.number whole) (is_of x.number) see (seen write host c)) ps

  -- talks of the transfer are at its server
  abbrev AreServerTalks : Type 0
  AreServerTalks = AllByRecursion (λ q. (y : Transfer) → q.place ≡ Talks y → (y.number == x.number) ≡ true → (y.client ≡ c) × (is_server x.number whole (other_of c q.datagram) ≡ true)) whole

  other_end : (d : Recorded) (b : Bool) → is_with c d ≡ false → keeps 69 client (captured_there write b d) ≡ false
  other_end d b off = by_test (keeps 69 client (captured_there write b d))
      (λ is. absurd (by b (same_peers (peer_of (captured_there write b d)) client is)))
      (λ none. none)
    where
      one : (a e : Endpoint) → name write host c a ≡ name write host c e → a ≡ e
      one a e is =
          let address = write_one a.address e.address (ap (λ (p : PeerId). p.host) is) in
          let port = ap (λ (p : PeerId). p.port) is in
          λ i. record { address = address i; port = port i }

      by : (b : Bool) → peer_of (captured_there write b d) ≡ client → ⊥
      by true is = false≢true (sym off ∙ or_right (same_endpoint d.source c) (same_endpoint d.target c) (subst (λ e. same_endpoint d.target e ≡ true) (one d.target c is) (same_itself d.target)))
      by false is = false≢true (sym off ∙ or_left (same_endpoint d.source c) (same_endpoint d.target c) (subst (λ e. same_endpoint d.source e ≡ true) (one d.source c is) (same_itself d.source)))

  -- as the server saw it, so the client's own capture has it
  same_way : (q : Placed) → is_of x.number q ≡ true → (is_request q ≡ true → goes_from c q.datagram ≡ true) → see q ≡ seen write host c q
  same_way q of from = by q.place refl where
    asked : (place : Place) → q.place ≡ place → is_request (new q.datagram q.moment place) ≡ true → went_out x whole (new q.datagram q.moment place) ≡ false → see q ≡ seen write host c q
    asked place at request came =
        ap (λ p. captured_there write (went_out x whole (new q.datagram q.moment p)) q.datagram) at ∙ ap (λ b. captured_there write b q.datagram) came
        ∙ sym (ap (λ b. captured_there write (not b) q.datagram) (from (subst (λ p. is_request (new q.datagram q.moment p) ≡ true) (sym at) request)))

    by : (place : Place) → q.place ≡ place → see q ≡ seen write host c q
    by (Opens y) at = asked (Opens y) at refl refl
    by (Repeats y) at = asked (Repeats y) at refl refl
    by (Talks y) at = ap (λ p. captured_there write (went_out x whole (new q.datagram q.moment p)) q.datagram) at
    by (Apart e) at = absurd (false≢true (subst (λ p. is_of x.number (new q.datagram q.moment p) ≡ true) at of))
    by (Beside y) at = absurd (false≢true (subst (λ p. is_of x.number (new q.datagram q.moment p) ≡ true) at of))
    by Nowhere at = absurd (false≢true (subst (λ p. is_of x.number (new q.datagram q.moment p) ≡ true) at of))

  own_there : (q : Placed) → is_of x.number q ≡ true → ((y : Transfer) → q.place ≡ Talks y → (y.number == x.number) ≡ true → (y.client ≡ c) × (is_server x.number whole (other_of c q.datagram) ≡ true))
      → is_at_server x.number whole q ≡ true
  own_there q of with = by q.place refl where
    by : (place : Place) → q.place ≡ place → is_at_server x.number whole q ≡ true
    by (Opens y) at = subst (λ p. is_at_server x.number whole (new q.datagram q.moment p) ≡ true) (sym at) (subst (λ p. is_of x.number (new q.datagram q.moment p) ≡ true) at of)
    by (Repeats y) at = subst (λ p. is_at_server x.number whole (new q.datagram q.moment p) ≡ true) (sym at) (subst (λ p. is_of x.number (new q.datagram q.moment p) ≡ true) at of)
    by (Talks y) at =
        let number : (y.number == x.number) ≡ true = subst (λ p. is_of x.number (new q.datagram q.moment p) ≡ true) at of in
        let (is_client, there) = with y at number in
        subst (λ p. is_at_server x.number whole (new q.datagram q.moment p) ≡ true) (sym at)
        (and_from (y.number == x.number) (is_server x.number whole (other_of y.client q.datagram) || goes_to_asked y q.datagram) number
        (or_left (is_server x.number whole (other_of y.client q.datagram)) (goes_to_asked y q.datagram) (subst (λ e. is_server x.number whole (other_of e q.datagram) ≡ true) (sym is_client) there)))
    by (Apart e) at = absurd (false≢true (subst (λ p. is_of x.number (new q.datagram q.moment p) ≡ true) at of))
    by (Beside y) at = absurd (false≢true (subst (λ p. is_of x.number (new q.datagram q.moment p) ≡ true) at of))
    by Nowhere at = absurd (false≢true (subst (λ p. is_of x.number (new q.datagram q.moment p) ≡ true) at of))

  fits_all : (ps : List Placed) → AllByRecursion (IsOwnOf c x.number) ps → AllByRecursion (λ q. is_beside q ≡ true → is_with c q.datagram ≡ false) ps
      → AllByRecursion (λ q. (y : Transfer) → q.place ≡ Talks y → (y.number == x.number) ≡ true → (y.client ≡ c) × (is_server x.number whole (other_of c q.datagram) ≡ true)) ps → FitsAll ps
  fits_all [] own apart talks = tt
  fits_all (q ∷ ps) own apart talks = (
    record {
      mine = λ of.
          let (with, from) = own.0 of in
          let same = same_way q of from in (
            own_there q of talks.0,
            same,
            subst (λ d. keeps 69 client d ≡ true) (sym same) (peers_same (peer_of (seen write host c q)) client (peer_seen write host c q.datagram with)),
          );
      others = λ off there. other_end q.datagram (went_out x whole q) (apart.0 (seen_beside x.number whole q off there));
    },
    fits_all ps own.1 apart.1 talks.1,
  )

-- ---- so no server is accused

-- a capture that some run shows breaks no rule
pub served_lawful : (write : Address → List ℕ) (c : Endpoint) (k : List Recorded) → IsLawful (at_server_of 69) (map (as_served write c) (reverse k)) → OneEnded (at_server_of 69) (map (as_served write c) k)
served_lawful write c k shown = subst (OneEnded (at_server_of 69)) (sym (map_reversed (as_served write c) (reverse k)) ∙ ap (map (as_served write c)) (reverse-reverse k))
    ((lawful (at_server_of 69) (map (as_served write c) (reverse k))).0 shown)

pub server_captures : (Late : Type 0) (write : Address → List ℕ) (host : Address) (c : Endpoint) (recorded : List Recorded) (each : List (List Recorded)) → filter (is_with c) recorded ≡ flat_map (λ capture. capture) each
    → AllByRecursion (λ k. IsServed Late write host c k × HasNoSilence k) each → (k : List Recorded) × AreCaptures (IsServed Late write host c) c (filter (is_with c) recorded) k
server_captures Late write host c recorded each same all = captures_at c (IsServed Late write host c) (served_before write host c Late) (follows_served write host c Late) (filter (is_with c) recorded) each (filter_all (is_with c) recorded) same all

each_served : (Late : Type 0) (write : Address → List ℕ) (host : Address) (c : Endpoint) (each : List (List Recorded)) → AllByRecursion (λ k. AllByRecursion (λ d. (is_with c d ≡ true) × ((other_of c d).address ≡ host)) k) each
    → AllByRecursion (λ k. OneEnded (at_server_of 69) (map (as_served write c) k) × HasNoSilence k × (Late ⊎ AsksInTime c k)) each → AllByRecursion (λ k. IsServed Late write host c k × HasNoSilence k) each
each_served Late write host c [] there all = tt
each_served Late write host c (k ∷ each) there all =
    let (passes, steady, timely) = all.0 in (
      (
        record {
          passes = passes;
          here = all_each (λ d. (is_with c d ≡ true) × ((other_of c d).address ≡ host)) (λ d. is_with c d ≡ true) (λ d both. both.0) k there.0;
          at_host = all_each (λ d. (is_with c d ≡ true) × ((other_of c d).address ≡ host)) (λ d. (other_of c d).address ≡ host) (λ d both. both.1) k there.0;
          timely = timely;
        },
        steady,
      ),
      each_served Late write host c each there.1 all.1,
    )

pub served_each : (Late : Type 0) (write : Address → List ℕ) (host : Address) (c : Endpoint) (recorded : List Recorded) (each : List (List Recorded)) → filter (is_with c) recorded ≡ flat_map (λ capture. capture) each
    → ((d : Recorded) → Contains recorded d → is_with c d ≡ true → (other_of c d).address ≡ host)
    → AllByRecursion (λ k. OneEnded (at_server_of 69) (map (as_served write c) k) × HasNoSilence k × (Late ⊎ AsksInTime c k)) each → AllByRecursion (λ k. IsServed Late write host c k × HasNoSilence k) each
served_each Late write host c recorded each same here all =
    let there = filter_with (λ d. is_with c d ≡ true → (other_of c d).address ≡ host) (is_with c) recorded (all_from (λ d. is_with c d ≡ true → (other_of c d).address ≡ host) recorded here) in
    let both = all_each (λ d. (is_with c d ≡ true) × (is_with c d ≡ true → (other_of c d).address ≡ host)) (λ d. (is_with c d ≡ true) × ((other_of c d).address ≡ host)) (λ d is. (is.0, is.1 is.0)) (filter (is_with c) recorded) there in
    each_served Late write host c each (all_flat (λ d. (is_with c d ≡ true) × ((other_of c d).address ≡ host)) each (subst (AllByRecursion (λ d. (is_with c d ≡ true) × ((other_of c d).address ≡ host))) same both)) all

map_filter : (P : Datagram → Type 0) (f : Placed → Datagram) (at : Placed → Bool) (ps : List Placed) → AllByRecursion (λ q. at q ≡ true → P (f q)) ps → AllByRecursion P (map f (filter at ps))
map_filter P f at [] all = tt
map_filter P f at (p ∷ ps) all = kept_or_not at p
    (λ is. subst (λ l. AllByRecursion P (map f l)) (sym (filter_kept at p ps is)) (all.0 is, map_filter P f at ps all.1))
    (λ off. subst (λ l. AllByRecursion P (map f l)) (sym (filter_dropped at p ps off)) (map_filter P f at ps all.1))

all_two : (P Q R : Placed → Type 0) → ((q : Placed) → P q → Q q → R q) → (ps : List Placed) → AllByRecursion P ps → AllByRecursion Q ps → AllByRecursion R ps
all_two P Q R f [] one other = tt
all_two P Q R f (q ∷ ps) one other = (f q one.0 other.0, all_two P Q R f ps one.1 other.1)

abbrev asks_at : Datagram → Bool
asks_at d = asks (at_server_of 69) d

-- what says no request, or goes to another port than 69, asks nothing there
asks_nothing : (write : Address → List ℕ) (b : Bool) (d : Recorded) → (begins_request d.payload ≡ true → (d.target.port == 69) ≡ false) → asks_at (captured_there write b d) ≡ false
asks_nothing write true d off = refl
asks_nothing write false d off = by_test (begins_request d.payload)
    (λ is. ap (λ b. begins_request d.payload && b) (off is) ∙ and_false (begins_request d.payload))
    (λ plain. ap (λ b. b && (d.target.port == 69)) plain)
  where
    and_false : (b : Bool) → (b && false) ≡ false
    and_false true = refl
    and_false false = refl

module _ (Late : Type 0) (write : Address → List ℕ) (write_one : (a b : Address) → write a ≡ write b → a ≡ b) (host : Address) (clients : List Endpoint) (recorded : List Recorded)
    (g : AreAll (IsServed Late write host) clients recorded) (none_aside : (c : Endpoint) (d : Recorded) → g.busy c d ≡ is_with c d) where
  abbrev all : List Placed
  all = placed [] recorded

  module _ (newer older : List Placed) (p : Placed) (are : placed [] recorded ≡ newer ++ p ∷ older) (x : Transfer) (at : transfer_of p.place ≡ Some x) (is_client : Contains clients x.client) where
    of : is_of x.number p ≡ true
    of = of_transfer x.number p.datagram p.moment p.place x at ∙ eq-eqb x.number x.number refl

    own_all : AllByRecursion (IsOwnOf x.client x.number) (placed [] recorded)
    own_all = kept_whole (IsServed Late write host) clients recorded g x.client (AreOwnOf x.client) (λ n. tt) (own_more x.client) (own_one Late write host x.client) is_client newer older p are x at refl

    said : Told x.client x.number (placed [] recorded)
    said = kept_whole (IsServed Late write host) clients recorded g x.client (Told x.client) (told_none x.client) (told_more x.client) (told_one Late write host x.client) is_client newer older p are x at refl

    apart : AllByRecursion (IsApart (IsServed Late write host) clients recorded g) (placed [] recorded)
    apart = all_apart (IsServed Late write host) clients recorded g [] recorded refl

    abbrev AreTalks : Type 0
    AreTalks = AreServerTalks write write_one host x (placed [] recorded)

    -- the talks of a transfer that is not doubtful are at its server
    talks_or : (is_doubted_there x.number (placed [] recorded) ≡ true) ⊎ AreTalks
    talks_or = by said where
      by : Told x.client x.number (placed [] recorded) → (is_doubted_there x.number (placed [] recorded) ≡ true) ⊎ AreTalks
      by (doubtful is) = inl is
      by (still asks_only) = inr (all_map (λ q. is_of x.number q ≡ true → is_request q ≡ true)
          (λ q. (y : Transfer) → q.place ≡ Talks y → (y.number == x.number) ≡ true → (y.client ≡ x.client) × (is_server x.number (placed [] recorded) (other_of x.client q.datagram) ≡ true))
          (λ q asks y talk number. absurd (false≢true (sym (no_request_talks q y talk) ∙ asks (of_talk x.number q y talk ∙ number)))) (placed [] recorded) asks_only)
      by (told o came every) =
          let server = server_is x.client x.number o (placed [] recorded) every came in
          inr (all_map (TalksWith x.client x.number o)
          (λ q. (y : Transfer) → q.place ≡ Talks y → (y.number == x.number) ≡ true → (y.client ≡ x.client) × (is_server x.number (placed [] recorded) (other_of x.client q.datagram) ≡ true))
          (λ q with y talk number.
          let here = with y talk number in
          (here.0, subst (λ e. is_server x.number (placed [] recorded) e ≡ true) (sym here.1) server)) (placed [] recorded) every)

    module _ (talks : AreTalks) where
      fits : FitsAll write write_one host x (placed [] recorded) (placed [] recorded)
      fits = fits_all write write_one host x (placed [] recorded) (placed [] recorded) own_all
          (all_map (IsApart (IsServed Late write host) clients recorded g) (λ q. is_beside q ≡ true → is_with x.client q.datagram ≡ false) (λ q is beside. sym (none_aside x.client q.datagram) ∙ (is beside).1 x.client is_client) (placed [] recorded) apart) talks

      abbrev Fit : Placed → Type 0
      Fit = Fits (keeps 69 (name write host x.client x.client)) (is_at_server x.number (placed [] recorded)) (is_of x.number) (seen_at_server write x (placed [] recorded)) (seen write host x.client)

      here : AllByRecursion Fit (p ∷ older)
      here = all_last Fit newer (p ∷ older) (subst (AllByRecursion Fit) are fits)

      there : AllByRecursion (IsApart (IsServed Late write host) clients recorded g) (p ∷ older)
      there = all_last (IsApart (IsServed Late write host) clients recorded g) newer (p ∷ older) (subst (AllByRecursion (IsApart (IsServed Late write host) clients recorded g)) are apart)

      strays : AreStrays 69 (name write host x.client x.client) (server_saw write x (placed [] recorded) older)
      strays = map_filter (λ d. keeps 69 (name write host x.client x.client) d ≡ false → asks_at d ≡ false) (seen_at_server write x (placed [] recorded)) (is_at_server x.number (placed [] recorded)) older
          (all_two Fit (IsApart (IsServed Late write host) clients recorded g)
          (λ q. is_at_server x.number (placed [] recorded) q ≡ true → keeps 69 (name write host x.client x.client) (seen_at_server write x (placed [] recorded) q) ≡ false → asks_at (seen_at_server write x (placed [] recorded) q) ≡ false)
          one older here.1 there.1)
        where
          one : (q : Placed) → Fit q → IsApart (IsServed Late write host) clients recorded g q → is_at_server x.number (placed [] recorded) q ≡ true
              → keeps 69 (name write host x.client x.client) (seen_at_server write x (placed [] recorded) q) ≡ false → asks_at (seen_at_server write x (placed [] recorded) q) ≡ false
          one q fit is seen_there off = by_test (is_of x.number q)
              (λ mine. absurd (false≢true (sym off ∙ (fit.mine mine).2)))
              (λ other. asks_nothing write (went_out x (placed [] recorded) q) q.datagram (is (seen_beside x.number (placed [] recorded) q other seen_there)).0)

      pub passes_there : IsFair write host x.client (client_view x.number (p ∷ older)) → OneEnded (at_server_of 69) (server_saw write x (placed [] recorded) older)
          → Passes (at_server_of 69) (server_saw write x (placed [] recorded) older) (seen_at_server write x (placed [] recorded) p)
      passes_there fair before =
          let view : client_view x.number (p ∷ older) ≡ p ∷ client_view x.number older = filter_kept (is_of x.number) p older of in
          let now : Passes (at_server_of 69) (map (seen write host x.client) (client_view x.number older)) (seen write host x.client p) = (subst (λ l. OneEnded (at_server_of 69) (map (seen write host x.client) l)) view fair).0 in
          let same = filtered (keeps 69 (name write host x.client x.client)) (is_at_server x.number (placed [] recorded)) (is_of x.number) (seen_at_server write x (placed [] recorded)) (seen write host x.client) older here.1 in
          let (seen_there, alike, kept) = here.0.mine of in
          passes_with 69 (name write host x.client x.client) (server_saw write x (placed [] recorded) older) before strays (seen_at_server write x (placed [] recorded) p) kept
          (subst (λ l. Passes (at_server_of 69) l (seen_at_server write x (placed [] recorded) p)) (sym same)
          (subst (λ d. Passes (at_server_of 69) (map (seen write host x.client) (client_view x.number older)) d) (sym alike) now))

      -- where strays are left out the view is the client's, and lawful too
      fair_before : OneEnded (at_server_of 69) (server_saw write x (placed [] recorded) older) → IsFair write host x.client (client_view x.number older)
      fair_before before = subst (OneEnded (at_server_of 69))
          (filtered (keeps 69 (name write host x.client x.client)) (is_at_server x.number (placed [] recorded)) (is_of x.number) (seen_at_server write x (placed [] recorded)) (seen write host x.client) older here.1)
          (lawful_kept 69 (name write host x.client x.client) (server_saw write x (placed [] recorded) older) before strays)

      pub taken_there : TakenAt (IsServed Late write host x.client) x.client x.number p older
          → OneEnded (at_server_of 69) (server_saw write x (placed [] recorded) older) → (may_be_earlier p older ≡ true) ⊎ IsFair write host x.client (client_view x.number (p ∷ older))
      taken_there t before = taken_or write host x.client x.number p older
          (record { k = t.k; kp = t.kp; rest = t.rest; x = t.x; has = t.has; good = t.good.passes; taken = t.taken; one = t.one; with = t.with; number = t.number }) of
          (fair_before before)

    -- where a late request opened the transfer, it may be of an earlier one
    pub late_spared : (rule : Rule) → IsRefused (at_server_of 69) (server_saw write x (placed [] recorded) older) (seen_at_server write x (placed [] recorded) p) rule
        → (needs_doubt x.number (placed [] recorded) p older ≡ true) ⊎ (may_be_earlier p older ≡ true)
    late_spared rule refused = elim (doubted_or (IsServed Late write host) clients recorded g x.client (IsFair write host x.client) Late tt (stated write host x.client Late) is_client newer older p are x at refl) [
      | inl doubt ↦ inl doubt
      | inr other ↦ elim talks_or [
        | inl doubt ↦ inl (or_left (is_doubted_there x.number (placed [] recorded)) (some_of x.number is_late (p ∷ older)) doubt)
        | inr talks ↦ elim other [
          | inl taken ↦ elim (taken_there talks taken.1 refused.lawful) [
            | inl earlier ↦ inr earlier
            | inr fair ↦ absurd ((passes_there talks fair refused.lawful).lawful rule refused.broken.0)
          ]
          | inr fair ↦ absurd ((passes_there talks fair refused.lawful).lawful rule refused.broken.0)
        ]
      ]
    ]

    pub own_spared : (rule : Rule) → IsRefused (at_server_of 69) (server_saw write x (placed [] recorded) older) (seen_at_server write x (placed [] recorded) p) rule
        → (needs_doubt x.number (placed [] recorded) p older ≡ true) ⊎ Late
    own_spared rule refused = elim (doubted_or (IsServed Late write host) clients recorded g x.client (IsFair write host x.client) Late tt (stated write host x.client Late) is_client newer older p are x at refl) [
      | inl doubt ↦ inl doubt
      | inr other ↦ elim other [
        | inl taken ↦ inr taken.0
        | inr fair ↦ elim talks_or [
          | inl doubt ↦ inl (or_left (is_doubted_there x.number (placed [] recorded)) (some_of x.number is_late (p ∷ older)) doubt)
          | inr talks ↦ absurd ((passes_there talks fair refused.lawful).lawful rule refused.broken.0)
        ]
      ]
    ]

  -- at each datagram that the server saw
  pub server_is_spared : (newer older : List Placed) (p : Placed) → placed [] recorded ≡ newer ++ p ∷ older → (x : Transfer) → transfer_beside p.place ≡ Some x → Contains clients x.client
      → (rule : Rule) → IsRefused (at_server_of x.asked.port) (server_saw write x (placed [] recorded) older) (seen_at_server write x (placed [] recorded) p) rule
      → ((needs_doubt x.number (placed [] recorded) p older || is_beside p) ≡ true) ⊎ Late
  server_is_spared newer older p are x at is_client rule refused = by p.place refl where
    at_69 : transfer_of p.place ≡ Some x → IsRefused (at_server_of 69) (server_saw write x (placed [] recorded) older) (seen_at_server write x (placed [] recorded) p) rule
    at_69 there = subst (λ port. IsRefused (at_server_of port) (server_saw write x (placed [] recorded) older) (seen_at_server write x (placed [] recorded) p) rule)
        (asked_of (IsServed Late write host) clients recorded g newer older p are x there is_client) refused

    mine : transfer_of p.place ≡ Some x → ((needs_doubt x.number (placed [] recorded) p older || is_beside p) ≡ true) ⊎ Late
    mine there = elim (own_spared newer older p are x there is_client rule (at_69 there)) [
      | inl doubt ↦ inl (or_left (needs_doubt x.number (placed [] recorded) p older) (is_beside p) doubt)
      | inr late ↦ inr late
    ]

    by : (place : Place) → p.place ≡ place → ((needs_doubt x.number (placed [] recorded) p older || is_beside p) ≡ true) ⊎ Late
    by (Opens y) is = mine (ap transfer_of is ∙ sym (ap transfer_beside is) ∙ at)
    by (Repeats y) is = mine (ap transfer_of is ∙ sym (ap transfer_beside is) ∙ at)
    by (Talks y) is = mine (ap transfer_of is ∙ sym (ap transfer_beside is) ∙ at)
    by (Beside y) is = inl (or_right (needs_doubt x.number (placed [] recorded) p older) (is_beside p) (subst (λ place. is_beside (new p.datagram p.moment place) ≡ true) (sym is) refl))
    by (Apart e) is = let none : None ≡ Some x = sym (ap transfer_beside is) ∙ at in absurd (cc)
    by Nowhere is = let none : None ≡ Some x = sym (ap transfer_beside is) ∙ at in absurd (cc)

  pub late_server_is_spared : (newer older : List Placed) (p : Placed) → placed [] recorded ≡ newer ++ p ∷ older → (x : Transfer) → transfer_beside p.place ≡ Some x → Contains clients x.client
      → (rule : Rule) → IsRefused (at_server_of x.asked.port) (server_saw write x (placed [] recorded) older) (seen_at_server write x (placed [] recorded) p) rule
      → (needs_doubt x.number (placed [] recorded) p older || is_beside p || may_be_earlier p older) ≡ true
  late_server_is_spared newer older p are x at is_client rule refused = by p.place refl where
    result : (needs_doubt x.number (placed [] recorded) p older ≡ true) ⊎ (may_be_earlier p older ≡ true) → (needs_doubt x.number (placed [] recorded) p older || is_beside p || may_be_earlier p older) ≡ true
    result (inl doubt) = or_left (needs_doubt x.number (placed [] recorded) p older || is_beside p) (may_be_earlier p older) (or_left (needs_doubt x.number (placed [] recorded) p older) (is_beside p) doubt)
    result (inr earlier) = or_right (needs_doubt x.number (placed [] recorded) p older || is_beside p) (may_be_earlier p older) earlier

    mine : transfer_of p.place ≡ Some x → (needs_doubt x.number (placed [] recorded) p older || is_beside p || may_be_earlier p older) ≡ true
    mine there = result (late_spared newer older p are x there is_client rule
        (subst (λ port. IsRefused (at_server_of port) (server_saw write x (placed [] recorded) older) (seen_at_server write x (placed [] recorded) p) rule)
        (asked_of (IsServed Late write host) clients recorded g newer older p are x there is_client) refused))

    by : (place : Place) → p.place ≡ place → (needs_doubt x.number (placed [] recorded) p older || is_beside p || may_be_earlier p older) ≡ true
    by (Opens y) is = mine (ap transfer_of is ∙ sym (ap transfer_beside is) ∙ at)
    by (Repeats y) is = mine (ap transfer_of is ∙ sym (ap transfer_beside is) ∙ at)
    by (Talks y) is = mine (ap transfer_of is ∙ sym (ap transfer_beside is) ∙ at)
    by (Beside y) is = or_left (needs_doubt x.number (placed [] recorded) p older || is_beside p) (may_be_earlier p older)
        (or_right (needs_doubt x.number (placed [] recorded) p older) (is_beside p) (subst (λ place. is_beside (new p.datagram p.moment place) ≡ true) (sym is) refl))
    by (Apart e) is = let none : None ≡ Some x = sym (ap transfer_beside is) ∙ at in absurd (cc)
    by Nowhere is = let none : None ≡ Some x = sym (ap transfer_beside is) ∙ at in absurd (cc)

-- each of the four is a doubt at a server
pub doubtful_there : (n : ℕ) (placed : List Placed) (p : Placed) (older : List Placed) → (needs_doubt n placed p older || is_beside p) ≡ true → is_doubtful_at_server n placed p older ≡ true
doubtful_there n placed p older is = or_left (is_doubtful n placed p older || speaks_first p older) (comes_of_earlier n p older)
    (or_left (is_doubtful n placed p older) (speaks_first p older) (elim (or_cases (needs_doubt n placed p older) (is_beside p) is) [
      | inl doubt ↦ doubtful_is n placed p older doubt
      | inr beside ↦
          or_more (is_doubted n placed || is_led_astray n placed p older || some_of n is_late (p ∷ older) || is_beside p) (tells_strays n p older) (some_of n says_first_word (p ∷ older))
          (or_right (is_doubted n placed || is_led_astray n placed p older || some_of n is_late (p ∷ older)) (is_beside p) beside)
    ]))

-- that it may be of an earlier transfer is one too
pub doubtful_if_earlier : (n : ℕ) (placed : List Placed) (p : Placed) (older : List Placed) → (needs_doubt n placed p older || is_beside p || may_be_earlier p older) ≡ true → is_doubtful_at_server n placed p older ≡ true
doubtful_if_earlier n placed p older is = elim (or_cases (needs_doubt n placed p older || is_beside p) (may_be_earlier p older) is) [
  | inl doubt ↦ doubtful_there n placed p older doubt
  | inr earlier ↦ or_right (is_doubtful n placed p older || speaks_first p older) (comes_of_earlier n p older) (or_left (may_be_earlier p older) (some_of n agrees_late (p ∷ older) && rests_on_terms p) earlier)
]

-- ---- what may be of an earlier transfer passed where another was talked of

other_talk : (x : Transfer) (o : Endpoint) (q : Placed) → is_other_talk x.client o x.number q ≡ true → is_talk_of_another x o q ≡ true
other_talk x o q is = by q.place refl where
  by : (place : Place) → q.place ≡ place → is_talk_of_another x o q ≡ true
  by (Talks y) at = subst (λ p. is_talk_of_another x o (new q.datagram q.moment p) ≡ true) (sym at) (subst (λ p. is_other_talk x.client o x.number (new q.datagram q.moment p) ≡ true) at is)
  by (Opens y) at = absurd (false≢true (subst (λ p. is_other_talk x.client o x.number (new q.datagram q.moment p) ≡ true) at is))
  by (Repeats y) at = absurd (false≢true (subst (λ p. is_other_talk x.client o x.number (new q.datagram q.moment p) ≡ true) at is))
  by (Apart e) at = absurd (false≢true (subst (λ p. is_other_talk x.client o x.number (new q.datagram q.moment p) ≡ true) at is))
  by (Beside y) at = absurd (false≢true (subst (λ p. is_other_talk x.client o x.number (new q.datagram q.moment p) ≡ true) at is))
  by Nowhere at = absurd (false≢true (subst (λ p. is_other_talk x.client o x.number (new q.datagram q.moment p) ≡ true) at is))

talked_before : (x : Transfer) (o : Endpoint) (f : Placed → Bool) (ps : List Placed) → list_any f (before_talk x.client o x.number ps) ≡ true → list_any (is_talk_of_another x o) ps ≡ true
talked_before x o f [] any = any
talked_before x o f (q ∷ ps) any = by_test (is_other_talk x.client o x.number q)
    (λ is. or_left (is_talk_of_another x o q) (list_any (is_talk_of_another x o) ps) (other_talk x o q is))
    (λ off. or_right (is_talk_of_another x o q) (list_any (is_talk_of_another x o) ps)
    (talked_before x o f ps (sym (ap (λ b. list_any f (if b then q ∷ ps else before_talk x.client o x.number ps)) off) ∙ any)))

pub earlier_shared : (p : Placed) (older : List Placed) → may_be_earlier p older ≡ true → is_shared p older ≡ true
earlier_shared p older is = by p.place refl where
  by : (place : Place) → p.place ≡ place → is_shared p older ≡ true
  by (Talks x) at = subst (λ place. is_shared (new p.datagram p.moment place) older ≡ true) (sym at)
      (talked_before x (other_of x.client p.datagram) (may_follow x.client (other_of x.client p.datagram) (same_endpoint p.datagram.source x.client) p.datagram.payload) (line_before x.client (new p.datagram p.moment (Talks x)) older)
      (subst (λ place. may_be_earlier (new p.datagram p.moment place) older ≡ true) at is))
  by (Opens y) at = absurd (false≢true (subst (λ place. may_be_earlier (new p.datagram p.moment place) older ≡ true) at is))
  by (Repeats y) at = absurd (false≢true (subst (λ place. may_be_earlier (new p.datagram p.moment place) older ≡ true) at is))
  by (Apart e) at = absurd (false≢true (subst (λ place. may_be_earlier (new p.datagram p.moment place) older ≡ true) at is))
  by (Beside y) at = absurd (false≢true (subst (λ place. may_be_earlier (new p.datagram p.moment place) older ≡ true) at is))
  by Nowhere at = absurd (false≢true (subst (λ place. may_be_earlier (new p.datagram p.moment place) older ≡ true) at is))
