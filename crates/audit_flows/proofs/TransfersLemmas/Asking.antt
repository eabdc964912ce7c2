-- Where a client asked once, its line has one transfer.
use Rattle.std.proofs.Common.{◌≡◌, ◌⊎◌, ℕ, ◌+◌, Bool, true, false, true≢false, List, [], ◌∷◌, Option, Some, None, inl, inr, refl, sym, ap, subst, ◌∙◌, ◌==◌, ◌&&◌, ◌||◌, not, nat_le, is_some, max, option_map, length, if◌then◌else◌}
use Rattle.std.specs.List.{All, AllByRecursion}
use Rattle.std.proofs.lemmas.Bool.{eq-eqb}
use Rattle.std.proofs.lemmas.List.Elements.{All-nil, All-cons}
use Rattle.audit_flows.specs.Lines.{Recorded, same_endpoint, is_again, Placed, opens, is_of, is_apart, is_at, newest_of, live, line, clock, silence, transfer_of, latest_in, answered_in, talked_of, talk_in, place_talked, place_at, opened_by, asked_after, is_known_host, last_was_ack_0, follows_request}
use Rattle.audit_flows.specs.declared.lines.endpoint.Endpoint.{Endpoint}
use Rattle.audit_flows.specs.declared.lines.place.Place.{Place}
use Rattle.audit_flows.specs.declared.lines.place.Place.TheVariants.{Opens, Repeats, Talks, Apart, Beside, Nowhere}
use Rattle.audit_flows.specs.declared.lines.place.Transfer.{Transfer}
use Rattle.audit_flows.specs.declared.lines.line.Talk.{Talk}
use Rattle.audit_flows.specs.Transfers.{at_client, beside, beside_by, served_at, is_nowhere, asks, place_of, placed, some_of}
use Rattle.audit_flows.proofs.LinesLemmas.Endpoints.{is_same}
use Rattle.audit_flows.proofs.LinesLemmas.Lines.{by_test}
use Rattle.audit_flows.proofs.LinesLemmas.Silences.{live_is, live_not}
use Rattle.audit_flows.proofs.TransfersLemmas.AllLines.{line_here, line_elsewhere, repeats_live}
use Rattle.audit_flows.proofs.TransfersLemmas.Ends.{IsSaidAt, said, silent, IsWhere, AreAt, lived_at, line_at, opened, again, asked_as, either_is, spoken, asked_place, place_said, placed_where}

-- ---- places that name no other transfer than the one with this number

abbrev pub IsOne : ℕ → Place → Type 0
IsOne n (Opens x) = (x.number == n) ≡ true
IsOne n (Repeats x) = (x.number == n) ≡ true
IsOne n (Talks x) = (x.number == n) ≡ true
IsOne n _ = Unit {0}

abbrev pub AreOne : ℕ → List Placed → Type 0
AreOne n ps = AllByRecursion (λ p. IsOne n p.place) ps

module _ (n : ℕ) where
  newest_one : (test : Placed → Bool) (ps : List Placed) (p : Placed) → AreOne n ps → newest_of test ps ≡ Some p → IsOne n p.place
  newest_one test [] p all found = absurd (cc)
  newest_one test (q ∷ ps) p all found = by_test (test q)
      (λ is. let same : Some q ≡ Some p = sym (ap (λ b. if b then Some q else newest_of test ps) is) ∙ found in
      let this : q ≡ p = cc in subst (λ r. IsOne n r.place) this all.0)
      (λ off. newest_one test ps p all.1 (sym (ap (λ b. if b then Some q else newest_of test ps) off) ∙ found))

  -- ---- the transfers that a line tells of

  transfer_one : (place : Place) (x : Transfer) → IsOne n place → transfer_of place ≡ Some x → (x.number == n) ≡ true
  transfer_one (Opens y) x one is = let this : y ≡ x = cc in subst (λ z. (z.number == n) ≡ true) this one
  transfer_one (Repeats y) x one is = let this : y ≡ x = cc in subst (λ z. (z.number == n) ≡ true) this one
  transfer_one (Talks y) x one is = let this : y ≡ x = cc in subst (λ z. (z.number == n) ≡ true) this one
  transfer_one _ x one is = absurd (cc)

  talked_one : (place : Place) (x : Transfer) → IsOne n place → talked_of place ≡ Some x → (x.number == n) ≡ true
  talked_one (Talks y) x one is = let this : y ≡ x = cc in subst (λ z. (z.number == n) ≡ true) this one
  talked_one _ x one is = absurd (cc)

  latest_one : (ps : List Placed) (x : Transfer) → AreOne n ps → latest_in ps ≡ Some x → (x.number == n) ≡ true
  latest_one ps x all is = by (newest_of opens ps) refl where
    by : (found : Option Placed) → newest_of opens ps ≡ found → (x.number == n) ≡ true
    by None none = let both : None ≡ Some x = rw none at is in absurd (cc)
    by (Some p) found =
        let this : transfer_of p.place ≡ Some x = rw found at is in
        transfer_one p.place x (newest_one opens ps p all found) this

  talks_one : (c o : Endpoint) (ps : List Placed) (t : Talk) (x : Transfer) → AreOne n ps → talk_in c o ps ≡ Some t → t.transfer ≡ Some x → (x.number == n) ≡ true
  talks_one c o ps t x all is of = by (newest_of (spoken c o) ps) refl where
    by : (found : Option Placed) → newest_of (spoken c o) ps ≡ found → (x.number == n) ≡ true
    by None none = let both : None ≡ Some t = sym (ap (option_map (λ p. record { transfer = talked_of p.place; acked_0 = last_was_ack_0 c o ps })) none) ∙ is in absurd (cc)
    by (Some p) found =
        let same : Some (record { transfer = talked_of p.place; acked_0 = last_was_ack_0 c o ps }) ≡ Some t = sym (ap (option_map (λ q. record { transfer = talked_of q.place; acked_0 = last_was_ack_0 c o ps })) found) ∙ is in
        let this : record { transfer = talked_of p.place; acked_0 = last_was_ack_0 c o ps } ≡ t = cc in
        talked_one p.place x (newest_one (spoken c o) ps p all found) (ap (λ u. u.transfer) this ∙ of)

  -- ---- at the client

  chosen_one : (b : Bool) (one other : Place) → IsOne n one → IsOne n other → IsOne n (if b then one else other)
  chosen_one true one other is also = is
  chosen_one false one other is also = also

  place_talk_one : (c o : Endpoint) (x : Transfer) (answered : Option Endpoint) (d : Recorded) (talk : Option Talk) → (x.number == n) ≡ true
      → ((t : Talk) (y : Transfer) → talk ≡ Some t → t.transfer ≡ Some y → (y.number == n) ≡ true) → IsOne n (place_talked c o x answered d talk)
  place_talk_one c o x answered d None one talks = chosen_one (same_endpoint d.source c && not (is_known_host x answered o)) (Apart c) (Talks x) tt one
  place_talk_one c o x answered d (Some t) one talks = by t.transfer refl where
    by : (of : Option Transfer) → t.transfer ≡ of → IsOne n (place_talked c o x answered d (Some t))
    by None is = rw is tt
    by (Some y) is = rw is (chosen_one _ (Talks x) (Talks y) one (talks t y refl is))

  place_at_one : (c o : Endpoint) (ps : List Placed) (d : Recorded) → AreOne n ps → IsOne n (place_at c o ps d)
  place_at_one c o ps d all = by (latest_in ps) refl where
    by : (found : Option Transfer) → latest_in ps ≡ found → IsOne n (place_at c o ps d)
    by None is = rw is tt
    by (Some x) is = rw is (place_talk_one c o x (answered_in x ps) d (talk_in c o ps) (latest_one ps x all is) (λ t y. talks_one c o ps t y all))

  -- a line says so of what is talked there
  said_one : (c e o : Endpoint) (older : List Placed) (now : ℕ) (d : Recorded) (y : Transfer) → AreOne n (live now (line c older)) → y.client ≡ c
      → place_at e o (live now (line e older)) d ≡ Talks y → (y.number == n) ≡ true
  said_one c e o older now d y all client is = by (place_said e o (live now (line e older)) d (lived_at e now older)) where
    by : IsSaidAt e (live now (line e older)) (place_at e o (live now (line e older)) d) → (y.number == n) ≡ true
    by (said some talk) =
        let here : c ≡ e = sym client ∙ talk.talks y is in
        subst (IsOne n) is (place_at_one e o (live now (line e older)) d (subst (λ f. AreOne n (live now (line f older))) here all))
    by (silent none) = let both : Nowhere ≡ Talks y = sym none ∙ is in absurd (cc)

  client_one : (c : Endpoint) (older : List Placed) (now : ℕ) (d : Recorded) (y : Transfer) → AreOne n (live now (line c older)) → y.client ≡ c
      → at_client older now d ≡ Talks y → (y.number == n) ≡ true
  client_one c older now d y all client is =
      elim (either_is (place_at d.source d.target (live now (line d.source older)) d) (place_at d.target d.source (live now (line d.target older)) d)) [
        | inl one ↦ said_one c d.source d.target older now d y all client (sym one ∙ is)
        | inr other ↦ said_one c d.target d.source older now d y all client (sym other ∙ is)
      ]

  -- ---- a request that repeats

  repeats_one : (older : List Placed) (now : ℕ) (d : Recorded) (y : Transfer) → AreOne n (live now (line d.source older)) → asked_place older now d ≡ Repeats y → (y.number == n) ≡ true
  repeats_one older now d y all is = by (newest_of (λ p. not (is_apart p)) (live now (line d.source older))) refl where
    by : (found : Option Placed) → newest_of (λ p. not (is_apart p)) (live now (line d.source older)) ≡ found → (y.number == n) ≡ true
    by None none = let both : opened_by (length older) d ≡ Repeats y = rw none at is in absurd (cc)
    by (Some p) found =
        let after : asked_place older now d ≡ asked_after (opened_by (length older) d) p.place (is_again p.datagram d) = rw found refl in
        elim (asked_as p.place (is_again p.datagram d) (length older) d) [
          | opened e ↦ let both : opened_by (length older) d ≡ Repeats y = sym e ∙ sym after ∙ is in absurd (cc)
          | again x e of ↦
              let both : Repeats x ≡ Repeats y = sym e ∙ sym after ∙ is in
              let same : x ≡ y = cc in
              subst (λ z. (z.number == n) ≡ true) same (transfer_one p.place x (newest_one (λ q. not (is_apart q)) (live now (line d.source older)) p all found) of)
        ]

-- ---- what is talked is so by a client's line

beside_never : (one other : Option Transfer) (y : Transfer) → beside_by one other ≡ Talks y → ⊥
beside_never (Some x) other y e = let both : Beside x ≡ Talks y = e in absurd (cc)
beside_never None (Some x) y e = let both : Beside x ≡ Talks y = e in absurd (cc)
beside_never None None y e = let both : Nowhere ≡ Talks y = e in absurd (cc)

asked_never : (older : List Placed) (now : ℕ) (d : Recorded) (y : Transfer) → asked_place older now d ≡ Talks y → ⊥
asked_never older now d y is = by (newest_of (λ p. not (is_apart p)) (live now (line d.source older))) refl where
  by : (found : Option Placed) → newest_of (λ p. not (is_apart p)) (live now (line d.source older)) ≡ found → ⊥
  by None none = let both : opened_by (length older) d ≡ Talks y = rw none at is in absurd (cc)
  by (Some p) found =
      let after : asked_place older now d ≡ asked_after (opened_by (length older) d) p.place (is_again p.datagram d) = rw found refl in
      elim (asked_as p.place (is_again p.datagram d) (length older) d) [
        | opened e ↦ let both : opened_by (length older) d ≡ Talks y = sym e ∙ sym after ∙ is in absurd (cc)
        | again x e of ↦ let both : Repeats x ≡ Talks y = sym e ∙ sym after ∙ is in absurd (cc)
      ]

talks_client : (named : List ℕ) (older : List Placed) (now : ℕ) (d : Recorded) (y : Transfer) → place_of named older now d ≡ Talks y → at_client older now d ≡ Talks y
talks_client named older now d y is = by_test (asks named older now d)
    (λ so. absurd (never (sym (ap (λ b. if b then asked_place older now d else if is_nowhere (at_client older now d) then beside named older now d else at_client older now d) so) ∙ is)))
    (λ off. by_test (is_nowhere (at_client older now d))
    (λ none. absurd (apart (sym (ap (λ b. if b then beside named older now d else at_client older now d) none) ∙ rest off)))
    (λ there. sym (ap (λ b. if b then beside named older now d else at_client older now d) there) ∙ rest off))
  where
    rest : asks named older now d ≡ false → (if is_nowhere (at_client older now d) then beside named older now d else at_client older now d) ≡ Talks y
    rest off = sym (ap (λ b. if b then asked_place older now d else if is_nowhere (at_client older now d) then beside named older now d else at_client older now d) off) ∙ is

    apart : beside named older now d ≡ Talks y → ⊥
    apart e = beside_never (served_at named older now d.source) (served_at named older now d.target) y e

    never : asked_place older now d ≡ Talks y → ⊥
    never e = asked_never older now d y e

-- ---- a line begins with a request

and_second : (a b : Bool) → a ≡ true → (a && b) ≡ false → b ≡ false
and_second true b is off = off
and_second false b is off = absurd (true≢false (sym is))

or_neither : (a b : Bool) → (a || b) ≡ false → (a ≡ false) × (b ≡ false)
or_neither true b off = absurd (true≢false off)
or_neither false b off = (refl, off)

no_some : (o : Option Transfer) → is_some o ≡ false → o ≡ None
no_some None off = refl
no_some (Some x) off = absurd (true≢false off)

live_none : (now : ℕ) (ps : List Placed) → (latest_in ps ≡ None → ps ≡ []) → latest_in (live now ps) ≡ None → live now ps ≡ []
live_none now ps begun none = by_test (nat_le now (clock ps + silence))
    (λ is. live_is now ps is ∙ begun (ap latest_in (sym (live_is now ps is)) ∙ none))
    (λ off. live_not now ps off)

live_one : (n now : ℕ) (ps : List Placed) (x : Transfer) → (latest_in ps ≡ Some x → AreOne n ps) → latest_in (live now ps) ≡ Some x → AreOne n (live now ps)
live_one n now ps x before latest = by_test (nat_le now (clock ps + silence))
    (λ is. subst (AreOne n) (sym (live_is now ps is)) (before (ap latest_in (sym (live_is now ps is)) ∙ latest)))
    (λ off. subst (AreOne n) (sym (live_not now ps off)) tt)

module _ (older : List Placed) (now : ℕ) (d : Recorded) (c : Endpoint) where
  abbrev new : Place → Placed
  new place = record { datagram = d; moment = now; place = place }

  abbrev lived : List Placed
  lived = live now (line c older)

  no_first : (place : Place) → IsWhere older now d place → is_at c (new place) ≡ true → (latest_in lived ≡ None → lived ≡ []) → latest_in (new place ∷ lived) ≡ None → ⊥
  no_first (Opens x) where_is at begun none = let both : Some x ≡ None = none in absurd (cc)
  no_first (Repeats x) where_is at begun none =
      let repeated = where_is.repeats x refl in
      repeats_live (length older) d x (live now (line d.source older)) repeated.1 (ap (λ e. live now (line e older)) (sym repeated.0 ∙ is_same x.client c at) ∙ begun none)
  no_first (Talks x) where_is at begun none = (where_is.talks x refl).1 (ap (λ e. live now (line e older)) (is_same x.client c at) ∙ begun none)
  no_first (Apart a) where_is at begun none = (where_is.apart a refl).1 (ap (λ e. live now (line e older)) (is_same a c at) ∙ begun none)
  no_first (Beside x) where_is at begun none = true≢false (sym at)
  no_first Nowhere where_is at begun none = true≢false (sym at)

  -- ---- one datagram more

  here_one : (x : Transfer) (place : Place) → IsWhere older now d place → is_at c (new place) ≡ true → latest_in (new place ∷ lived) ≡ Some x
      → (is_of x.number (new place) && follows_request (new place) older) ≡ false
      → (latest_in lived ≡ Some x → AreOne x.number lived) → (latest_in lived ≡ None → lived ≡ [])
      → ((y : Transfer) → place ≡ Talks y → at_client older now d ≡ Talks y) → IsOne x.number place × AreOne x.number lived
  here_one x (Opens y) where_is at latest once before begun talks =
      let both : Some y ≡ Some x = latest in
      let same : y ≡ x = cc in
      let one : (y.number == x.number) ≡ true = eq-eqb y.number x.number (ap (λ z. z.number) same) in
      let first : is_some (latest_in (live now (line y.client older))) ≡ false = and_second (y.number == x.number) (is_some (latest_in (live now (line y.client older)))) one once in
      let none : latest_in lived ≡ None = no_some (latest_in lived) (ap (λ e. is_some (latest_in (live now (line e older)))) (sym (is_same y.client c at)) ∙ first) in
      (one, subst (AreOne x.number) (sym (begun none)) tt)
  here_one x (Repeats y) where_is at latest once before begun talks =
      let repeated = where_is.repeats y refl in
      (repeats_one x.number older now d y (subst (λ e. AreOne x.number (live now (line e older))) (sym (is_same y.client c at) ∙ repeated.0) (before latest)) repeated.1, before latest)
  here_one x (Talks y) where_is at latest once before begun talks = (client_one x.number c older now d y (before latest) (is_same y.client c at) (talks y refl), before latest)
  here_one x (Apart a) where_is at latest once before begun talks = (tt, before latest)
  here_one x (Beside y) where_is at latest once before begun talks = absurd (true≢false (sym at))
  here_one x Nowhere where_is at latest once before begun talks = absurd (true≢false (sym at))

never_none : (named : List ℕ) (c : Endpoint) (recorded : List Recorded) → latest_in (line c (placed named recorded)) ≡ None → line c (placed named recorded) ≡ []
never_none named c [] none = refl
never_none named c (d ∷ recorded) none = by_test (is_at c p)
    (λ at. absurd (no_first older now d c p.place (placed_where named older now d) at (live_none now (line c older) (never_none named c recorded))
    (ap latest_in (sym (line_here c p older at)) ∙ none)))
    (λ off. line_elsewhere c p older off ∙ never_none named c recorded (ap latest_in (sym (line_elsewhere c p older off)) ∙ none))
  where
    older : List Placed
    older = placed named recorded

    now : ℕ
    now = max d.time (clock older)

    p : Placed
    p = record { datagram = d; moment = now; place = place_of named older now d }

one_line : (named : List ℕ) (c : Endpoint) (recorded : List Recorded) (x : Transfer) → latest_in (line c (placed named recorded)) ≡ Some x
    → some_of x.number follows_request (placed named recorded) ≡ false → AreOne x.number (line c (placed named recorded))
one_line named c [] x latest once = tt
one_line named c (d ∷ recorded) x latest once = by_test (is_at c p)
    (λ at. subst (AreOne x.number) (sym (line_here c p older at))
    (here_one older now d c x p.place (placed_where named older now d) at (ap latest_in (sym (line_here c p older at)) ∙ latest) parts.0
    (live_one x.number now (line c older) x (λ is. one_line named c recorded x is parts.1)) (live_none now (line c older) (never_none named c recorded)) (talks_client named older now d)))
    (λ off. subst (AreOne x.number) (sym (line_elsewhere c p older off)) (one_line named c recorded x (ap latest_in (sym (line_elsewhere c p older off)) ∙ latest) parts.1))
  where
    older : List Placed
    older = placed named recorded

    now : ℕ
    now = max d.time (clock older)

    p : Placed
    p = record { datagram = d; moment = now; place = place_of named older now d }

    parts : ((is_of x.number p && follows_request p older) ≡ false) × (some_of x.number follows_request older ≡ false)
    parts = or_neither (is_of x.number p && follows_request p older) (some_of x.number follows_request older) once

-- ---- each is of the transfer, or apart

abbrev pub IsOfOrApart : ℕ → Placed → Type 0
IsOfOrApart n p = (is_of n p ≡ true) ⊎ (is_apart p ≡ true)

one_at : (n : ℕ) (c : Endpoint) (d : Recorded) (now : ℕ) (place : Place) → IsOne n place → is_at c (record { datagram = d; moment = now; place = place }) ≡ true
    → IsOfOrApart n (record { datagram = d; moment = now; place = place })
one_at n c d now (Opens y) one at = inl one
one_at n c d now (Repeats y) one at = inl one
one_at n c d now (Talks y) one at = inl one
one_at n c d now (Apart a) one at = inr refl
one_at n c d now (Beside y) one at = absurd (true≢false (sym at))
one_at n c d now Nowhere one at = absurd (true≢false (sym at))

all_at : (n : ℕ) (c : Endpoint) (ps : List Placed) → AreOne n ps → AreAt c ps → All (IsOfOrApart n) ps
all_at n c [] all at = All-nil (IsOfOrApart n)
all_at n c (p ∷ ps) all at = All-cons (IsOfOrApart n) p ps (one_at n c p.datagram p.moment p.place all.0 at.0) (all_at n c ps all.1 at.1)

pub asked_once : (named : List ℕ) (recorded : List Recorded) (x : Transfer) → latest_in (line x.client (placed named recorded)) ≡ Some x
    → some_of x.number follows_request (placed named recorded) ≡ false → All (IsOfOrApart x.number) (line x.client (placed named recorded))
asked_once named recorded x latest once =
    all_at x.number x.client (line x.client (placed named recorded)) (one_line named x.client recorded x latest once) (line_at x.client (placed named recorded))
