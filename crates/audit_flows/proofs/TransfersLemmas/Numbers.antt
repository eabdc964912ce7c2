-- Each transfer that a place names was opened by a datagram before it or by itself: its number is below the count of them.
use Rattle.std.proofs.Common.{◌≡◌, ◌≤◌, ◌<◌, ℕ, ◌+◌, suc, Bool, true, false, List, [], ◌∷◌, Option, Some, None, inl, inr, arith, refl, sym, ap, subst, ◌∙◌, ◌==◌, ◌&&◌, ◌||◌, not, nat_le, max, option_map, length, if◌then◌else◌}
use Rattle.std.specs.List.{All, AllByRecursion}
use Rattle.std.proofs.lemmas.Bool.{ne_eqb}
use Rattle.std.proofs.lemmas.List.Elements.{All-nil, All-cons}
use Rattle.audit_flows.specs.Lines.{Recorded, same_endpoint, other_of, goes, is_again, Placed, opens, is_apart, is_at, newest_of, live, line, silence, transfer_of, latest_in, answered_in, may_answer, talked_of, talk_in, place_talked, place_at, opened_by, opening, asked_after, is_known_host, last_was_ack_0, clock, is_another, is_next_data, answer_of, may_be_answer_of}
use Rattle.audit_flows.specs.declared.lines.endpoint.Endpoint.{Endpoint}
use Rattle.audit_flows.specs.declared.lines.place.Place.{Place}
use Rattle.audit_flows.specs.declared.lines.place.Place.TheVariants.{Opens, Repeats, Talks, Apart, Beside, Nowhere}
use Rattle.audit_flows.specs.declared.lines.place.Transfer.{Transfer}
use Rattle.audit_flows.specs.declared.lines.line.Talk.{Talk}
use Rattle.audit_flows.specs.Transfers.{at_client, beside, beside_by, serves, newer, last_served, served_within, served_by, served_at, is_service, is_nowhere, asks, place_of, placed, is_about, is_it, is_answered_apart}
use Rattle.audit_flows.specs.declared.transfers.attribution.Served.{Served}
use Rattle.audit_flows.proofs.LinesLemmas.Lines.{by_test}
use Rattle.audit_flows.proofs.TransfersLemmas.AllLines.{line_here, line_elsewhere}
use Rattle.audit_flows.proofs.TransfersLemmas.Ends.{opened, again, asked_as, either_is, spoken, asked_place, beside_end, client_end}

-- ---- places that name no transfer of this number or above

abbrev pub IsBelow : ℕ → Place → Type 0
IsBelow bound (Opens x) = x.number < bound
IsBelow bound (Repeats x) = x.number < bound
IsBelow bound (Talks x) = x.number < bound
IsBelow bound (Apart c) = Unit {0}
IsBelow bound (Beside x) = x.number < bound
IsBelow bound Nowhere = Unit {0}

abbrev pub AreBelow : ℕ → List Placed → Type 0
AreBelow bound ps = AllByRecursion (λ p. IsBelow bound p.place) ps

below_more : (bound more : ℕ) → bound ≤ more → (place : Place) → IsBelow bound place → IsBelow more place
below_more bound more up (Apart c) is = tt
below_more bound more up Nowhere is = tt
below_more bound more up _ is = omega arith

all_below_more : (bound more : ℕ) → bound ≤ more → (ps : List Placed) → AreBelow bound ps → AreBelow more ps
all_below_more bound more up [] all = tt
all_below_more bound more up (p ∷ ps) all = (below_more bound more up p.place all.0, all_below_more bound more up ps all.1)

-- ---- what a line has is what passed before

module _ (bound : ℕ) where
  live_below : (now : ℕ) (ps : List Placed) → AreBelow bound ps → AreBelow bound (live now ps)
  live_below now [] all = tt
  live_below now (p ∷ ps) all = by_test (nat_le now (p.moment + silence))
      (λ is. subst (AreBelow bound) (sym (ap (λ b. if b then p ∷ ps else []) is)) all)
      (λ off. subst (AreBelow bound) (sym (ap (λ b. if b then p ∷ ps else []) off)) tt)

  line_below : (c : Endpoint) (older : List Placed) → AreBelow bound older → AreBelow bound (line c older)
  line_below c [] all = tt
  line_below c (p ∷ older) all = by_test (is_at c p)
      (λ is. subst (AreBelow bound) (sym (line_here c p older is)) (all.0, live_below p.moment (line c older) (line_below c older all.1)))
      (λ off. subst (AreBelow bound) (sym (line_elsewhere c p older off)) (line_below c older all.1))

  lived_below : (c : Endpoint) (now : ℕ) (older : List Placed) → AreBelow bound older → AreBelow bound (live now (line c older))
  lived_below c now older all = live_below now (line c older) (line_below c older all)

  newest_below : (test : Placed → Bool) (ps : List Placed) (p : Placed) → AreBelow bound ps → newest_of test ps ≡ Some p → IsBelow bound p.place
  newest_below test [] p all found = absurd (cc)
  newest_below test (q ∷ ps) p all found = by_test (test q)
      (λ is. let same : Some q ≡ Some p = sym (ap (λ b. if b then Some q else newest_of test ps) is) ∙ found in
      let this : q ≡ p = cc in subst (λ r. IsBelow bound r.place) this all.0)
      (λ off. newest_below test ps p all.1 (sym (ap (λ b. if b then Some q else newest_of test ps) off) ∙ found))

  -- ---- the transfers that a line tells of

  transfer_below : (place : Place) (x : Transfer) → IsBelow bound place → transfer_of place ≡ Some x → x.number < bound
  transfer_below (Opens y) x below is = let this : y ≡ x = cc in subst (λ z. z.number < bound) this below
  transfer_below (Repeats y) x below is = let this : y ≡ x = cc in subst (λ z. z.number < bound) this below
  transfer_below (Talks y) x below is = let this : y ≡ x = cc in subst (λ z. z.number < bound) this below
  transfer_below _ x below is = absurd (cc)

  talked_below : (place : Place) (x : Transfer) → IsBelow bound place → talked_of place ≡ Some x → x.number < bound
  talked_below (Talks y) x below is = let this : y ≡ x = cc in subst (λ z. z.number < bound) this below
  talked_below _ x below is = absurd (cc)

  latest_below : (ps : List Placed) (x : Transfer) → AreBelow bound ps → latest_in ps ≡ Some x → x.number < bound
  latest_below ps x all is = by (newest_of opens ps) refl where
    by : (found : Option Placed) → newest_of opens ps ≡ found → x.number < bound
    by None none = let both : None ≡ Some x = rw none at is in absurd (cc)
    by (Some p) found =
        let this : transfer_of p.place ≡ Some x = rw found at is in
        transfer_below p.place x (newest_below opens ps p all found) this

  talks_below : (c o : Endpoint) (ps : List Placed) (t : Talk) (x : Transfer) → AreBelow bound ps → talk_in c o ps ≡ Some t → t.transfer ≡ Some x → x.number < bound
  talks_below c o ps t x all is of = by (newest_of (spoken c o) ps) refl where
    by : (found : Option Placed) → newest_of (spoken c o) ps ≡ found → x.number < bound
    by None none = let both : None ≡ Some t = sym (ap (option_map (λ p. record { transfer = talked_of p.place; acked_0 = last_was_ack_0 c o ps })) none) ∙ is in absurd (cc)
    by (Some p) found =
        let same : Some (record { transfer = talked_of p.place; acked_0 = last_was_ack_0 c o ps }) ≡ Some t = sym (ap (option_map (λ q. record { transfer = talked_of q.place; acked_0 = last_was_ack_0 c o ps })) found) ∙ is in
        let this : record { transfer = talked_of p.place; acked_0 = last_was_ack_0 c o ps } ≡ t = cc in
        talked_below p.place x (newest_below (spoken c o) ps p all found) (ap (λ u. u.transfer) this ∙ of)

  -- ---- at a client

  chosen_below : (b : Bool) (one other : Place) → IsBelow bound one → IsBelow bound other → IsBelow bound (if b then one else other)
  chosen_below true one other is also = is
  chosen_below false one other is also = also

  place_talk_below : (c o : Endpoint) (x : Transfer) (answered : Option Endpoint) (d : Recorded) (talk : Option Talk) → x.number < bound
      → ((t : Talk) (y : Transfer) → talk ≡ Some t → t.transfer ≡ Some y → y.number < bound) → IsBelow bound (place_talked c o x answered d talk)
  place_talk_below c o x answered d None below talks = chosen_below (same_endpoint d.source c && not (is_known_host x answered o)) (Apart c) (Talks x) tt below
  place_talk_below c o x answered d (Some t) below talks = by t.transfer refl where
    by : (of : Option Transfer) → t.transfer ≡ of → IsBelow bound (place_talked c o x answered d (Some t))
    by None is = rw is tt
    by (Some y) is = rw is (chosen_below _ (Talks x) (Talks y) below (talks t y refl is))

  place_at_below : (c o : Endpoint) (ps : List Placed) (d : Recorded) → AreBelow bound ps → IsBelow bound (place_at c o ps d)
  place_at_below c o ps d all = by (latest_in ps) refl where
    by : (found : Option Transfer) → latest_in ps ≡ found → IsBelow bound (place_at c o ps d)
    by None is = rw is tt
    by (Some x) is = rw is (place_talk_below c o x (answered_in x ps) d (talk_in c o ps) (latest_below ps x all is) (λ t y. talks_below c o ps t y all))

  at_client_below : (older : List Placed) (now : ℕ) (d : Recorded) → AreBelow bound older → IsBelow bound (at_client older now d)
  at_client_below older now d all =
      elim (either_is (place_at d.source d.target (live now (line d.source older)) d) (place_at d.target d.source (live now (line d.target older)) d)) [
        | inl is ↦ subst (IsBelow bound) (sym is) (place_at_below d.source d.target (live now (line d.source older)) d (lived_below d.source now older all))
        | inr is ↦ subst (IsBelow bound) (sym is) (place_at_below d.target d.source (live now (line d.target older)) d (lived_below d.target now older all))
      ]

  -- ---- beside a server

  abbrev AreServedBelow : Option Served → Type 0
  AreServedBelow None = Unit {0}
  AreServedBelow (Some s) = s.transfer.number < bound

  abbrev IsOneBelow : Option Transfer → Type 0
  IsOneBelow None = Unit {0}
  IsOneBelow (Some x) = x.number < bound

  serves_below : (o : Endpoint) (d : Recorded) (now : ℕ) (place : Place) → IsBelow bound place → AreServedBelow (serves o (record { datagram = d; moment = now; place = place }))
  serves_below o d now (Talks x) below = by_test (goes o x.client d)
      (λ is. subst AreServedBelow (sym (ap (λ b. if b then Some (record { transfer = x; moment = now }) else None) is)) below)
      (λ off. subst AreServedBelow (sym (ap (λ b. if b then Some (record { transfer = x; moment = now }) else None) off)) tt)
  serves_below o d now _ below = tt

  newer_below : (one other : Option Served) → AreServedBelow one → AreServedBelow other → AreServedBelow (newer one other)
  newer_below None other is also = also
  newer_below (Some s) other is also = is

  last_served_below : (o : Endpoint) (older : List Placed) → AreBelow bound older → AreServedBelow (last_served o older)
  last_served_below o [] all = tt
  last_served_below o (p ∷ older) all = newer_below (serves o p) (last_served o older) (serves_below o p.datagram p.moment p.place all.0) (last_served_below o older all.1)

  within_below : (now : ℕ) (last : Option Served) → AreServedBelow last → IsOneBelow (served_within now last)
  within_below now None below = tt
  within_below now (Some s) below = by_test (nat_le now (s.moment + silence))
      (λ is. subst IsOneBelow (sym (ap (λ b. if b then Some s.transfer else None) is)) below)
      (λ off. subst IsOneBelow (sym (ap (λ b. if b then Some s.transfer else None) off)) tt)

  served_below : (named : List ℕ) (older : List Placed) (now : ℕ) (o : Endpoint) → AreBelow bound older → IsOneBelow (served_at named older now o)
  served_below named older now o all = by_test (is_service named older o.port)
      (λ is. subst IsOneBelow (sym (ap (λ b. if b then None else served_by o now older) is)) tt)
      (λ off. subst IsOneBelow (sym (ap (λ b. if b then None else served_by o now older) off)) (within_below now (last_served o older) (last_served_below o older all)))

  beside_by_below : (one other : Option Transfer) → IsOneBelow one → IsOneBelow other → IsBelow bound (beside_by one other)
  beside_by_below (Some x) other is also = is
  beside_by_below None (Some x) is also = also
  beside_by_below None None is also = tt

  beside_below : (named : List ℕ) (older : List Placed) (now : ℕ) (d : Recorded) → AreBelow bound older → IsBelow bound (beside named older now d)
  beside_below named older now d all = beside_by_below (served_at named older now d.source) (served_at named older now d.target)
      (served_below named older now d.source all) (served_below named older now d.target all)

  -- ---- requests

  asked_below : (older : List Placed) (now : ℕ) (d : Recorded) → length older < bound → AreBelow bound older → IsBelow bound (asked_place older now d)
  asked_below older now d room all = by (newest_of (λ p. not (is_apart p)) (live now (line d.source older))) refl where
    by : (found : Option Placed) → newest_of (λ p. not (is_apart p)) (live now (line d.source older)) ≡ found → IsBelow bound (asked_place older now d)
    by None none = rw none room
    by (Some p) found =
        let is : asked_place older now d ≡ asked_after (opened_by (length older) d) p.place (is_again p.datagram d) = rw found refl in
        elim (asked_as p.place (is_again p.datagram d) (length older) d) [
          | opened e ↦ subst (IsBelow bound) (sym (is ∙ e)) room
          | again x e of ↦ subst (IsBelow bound) (sym (is ∙ e))
              (transfer_below p.place x (newest_below (λ q. not (is_apart q)) (live now (line d.source older)) p (lived_below d.source now older all) found) of)
        ]

  place_below : (named : List ℕ) (older : List Placed) (now : ℕ) (d : Recorded) → length older < bound → AreBelow bound older → IsBelow bound (place_of named older now d)
  place_below named older now d room all = chosen_below (asks named older now d) (asked_place older now d) (if is_nowhere (at_client older now d) then beside named older now d else at_client older now d)
      (asked_below older now d room all)
      (chosen_below (is_nowhere (at_client older now d)) (beside named older now d) (at_client older now d) (beside_below named older now d all) (at_client_below older now d all))

-- ---- a whole recording

pub length_placed : (named : List ℕ) (recorded : List Recorded) → length (placed named recorded) ≡ length recorded
length_placed named [] = refl
length_placed named (d ∷ recorded) = ap suc (length_placed named recorded)

pub placed_below : (named : List ℕ) (recorded : List Recorded) → AreBelow (length recorded) (placed named recorded)
placed_below named [] = tt
placed_below named (d ∷ recorded) =
    let room : length (placed named recorded) < suc (length recorded) = rw (length_placed named recorded) (omega arith) in
    let all : AreBelow (suc (length recorded)) (placed named recorded) = all_below_more (length recorded) (suc (length recorded)) (omega arith) (placed named recorded) (placed_below named recorded) in
    (place_below (suc (length recorded)) named (placed named recorded) (max d.time (clock (placed named recorded))) d room all, all)

-- ---- what comes before an opening is not about the transfer

differs : (number bound n : ℕ) → number < bound → bound ≤ n → (number == n) ≡ false
differs number bound n below up = ne_eqb number n (λ e. let no : n < n = subst (λ k. k < n) e (omega arith) in omega arith)

not_about : (bound n : ℕ) (d : Recorded) (now : ℕ) (place : Place) → bound ≤ n → IsBelow bound place → is_about n (record { datagram = d; moment = now; place = place }) ≡ false
not_about bound n d now (Opens x) up below = differs x.number bound n below up
not_about bound n d now (Repeats x) up below = differs x.number bound n below up
not_about bound n d now (Talks x) up below = differs x.number bound n below up
not_about bound n d now (Beside x) up below = differs x.number bound n below up
not_about bound n d now _ up below = refl

none_about : (bound n : ℕ) → bound ≤ n → (ps : List Placed) → AreBelow bound ps → All (λ p. is_about n p ≡ false) ps
none_about bound n up [] all = All-nil (λ p. is_about n p ≡ false)
none_about bound n up (p ∷ ps) all = All-cons (λ p. is_about n p ≡ false) p ps (not_about bound n p.datagram p.moment p.place up all.0) (none_about bound n up ps all.1)

pub none_before : (named : List ℕ) (recorded : List Recorded) (n : ℕ) → length recorded ≤ n → All (λ p. is_about n p ≡ false) (placed named recorded)
none_before named recorded n up = none_about (length recorded) n up (placed named recorded) (placed_below named recorded)

-- ---- nor may it be its answer

chosen_other : (b : Bool) (n number : ℕ) → (number == n) ≡ false → is_it n (if b then Some number else None) ≡ false
chosen_other true n number off = off
chosen_other false n number off = refl

no_answer : (bound n : ℕ) → bound ≤ n → (x : Transfer) (o : Endpoint) (before : List Placed) (d : Recorded) → AreBelow bound before → is_it n (answer_of x o before d (latest_in before)) ≡ false
no_answer bound n up x o before d all = by (latest_in before) refl where
  by : (found : Option Transfer) → latest_in before ≡ found → is_it n (answer_of x o before d found) ≡ false
  by None is = refl
  by (Some latest) is = chosen_other (is_another x (Some latest) && (may_answer x.client o (answered_in latest before) d && is_next_data x o before d)) n latest.number
      (differs latest.number bound n (latest_below bound before latest all is) up)

not_answer : (bound n : ℕ) → bound ≤ n → (d : Recorded) (now : ℕ) (place : Place) (older : List Placed) → AreBelow bound older
    → is_it n (may_be_answer_of (record { datagram = d; moment = now; place = place }) older) ≡ false
not_answer bound n up d now (Talks x) older all = no_answer bound n up x (other_of x.client d) (live now (line x.client older)) d (lived_below bound x.client now older all)
not_answer bound n up d now _ older all = refl

none_answers : (bound n : ℕ) → bound ≤ n → (ps : List Placed) → AreBelow bound ps → is_answered_apart n ps ≡ false
none_answers bound n up [] all = refl
none_answers bound n up (p ∷ ps) all =
    ap (λ b. b || is_answered_apart n ps) (not_answer bound n up p.datagram p.moment p.place ps all.1) ∙ none_answers bound n up ps all.1

pub none_answers_before : (named : List ℕ) (recorded : List Recorded) (n : ℕ) → length recorded ≤ n → is_answered_apart n (placed named recorded) ≡ false
none_answers_before named recorded n up = none_answers (length recorded) n up (placed named recorded) (placed_below named recorded)

-- ---- the number of an opening

abbrev IsNumbered : ℕ → Place → Type 0
IsNumbered number place = (x : Transfer) → place ≡ Opens x → x.number ≡ number

asked_numbered : (older : List Placed) (now : ℕ) (d : Recorded) → IsNumbered (length older) (asked_place older now d)
asked_numbered older now d = by (newest_of (λ p. not (is_apart p)) (live now (line d.source older))) refl where
  opened_is : (place : Place) → place ≡ opened_by (length older) d → IsNumbered (length older) place
  opened_is place is x e =
      let both : opened_by (length older) d ≡ Opens x = sym is ∙ e in
      let same : opening (length older) d ≡ x = cc in sym (ap (λ z. z.number) same)

  by : (found : Option Placed) → newest_of (λ p. not (is_apart p)) (live now (line d.source older)) ≡ found → IsNumbered (length older) (asked_place older now d)
  by None none = opened_is (asked_place older now d) (rw none refl)
  by (Some p) found =
      let is : asked_place older now d ≡ asked_after (opened_by (length older) d) p.place (is_again p.datagram d) = rw found refl in
      elim (asked_as p.place (is_again p.datagram d) (length older) d) [
        | opened e ↦ opened_is (asked_place older now d) (is ∙ e)
        | again y e of ↦ λ x opens. let both : Repeats y ≡ Opens x = sym (is ∙ e) ∙ opens in absurd (cc)
      ]

chosen_numbered : (number : ℕ) (b : Bool) (one other : Place) → IsNumbered number one → IsNumbered number other → IsNumbered number (if b then one else other)
chosen_numbered number true one other is also = is
chosen_numbered number false one other is also = also

pub opening_number : (named : List ℕ) (older : List Placed) (now : ℕ) (d : Recorded) → IsNumbered (length older) (place_of named older now d)
opening_number named older now d =
    chosen_numbered (length older) (asks named older now d) (asked_place older now d) (if is_nowhere (at_client older now d) then beside named older now d else at_client older now d)
    (asked_numbered older now d)
    (chosen_numbered (length older) (is_nowhere (at_client older now d)) (beside named older now d) (at_client older now d)
    (λ x e. absurd ((beside_end older now d (served_at named older now d.source) (served_at named older now d.target)).opens x e))
    (λ x e. absurd ((client_end older now d).opens x e)))
