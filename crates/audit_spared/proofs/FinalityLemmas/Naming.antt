-- Whatever holds of each transfer that has been named holds of those that the next datagram may be of.
use Rattle.std.proofs.Common.{◌≡◌, ◌≤◌, ℕ, ◌+◌, Bool, true, false, List, [], ◌∷◌, Option, Some, None, inl, inr, refl, sym, ap, subst, ◌∙◌, ◌&&◌, not, nat_le, option_map, length, if◌then◌else◌}
use Rattle.std.specs.List.{AllByRecursion}
use Rattle.audit_flows.specs.Lines.{Recorded, same_endpoint, goes, is_again, Placed, opens, is_apart, is_at, newest_of, live, line, silence, transfer_of, latest_in, answered_in, talked_of, talk_in, place_talked, place_at, opened_by, opening, asked_after, is_known_host, last_was_ack_0, clock}
use Rattle.audit_flows.specs.{Endpoint, Place, Opens, Repeats, Talks, Apart, Beside, Nowhere, Transfer, Talk, Served}
use Rattle.audit_flows.specs.Transfers.{at_client, beside, beside_by, serves, newer, last_served, served_within, served_by, served_at, is_service, is_nowhere, asks, place_of}
use Rattle.audit_flows.proofs.LinesLemmas.Lines.{by_test}
use Rattle.audit_flows.proofs.LinesLemmas.Silences.{live_is, live_not, live_later, still_false}
use Rattle.audit_flows.proofs.TransfersLemmas.AllLines.{line_here, line_elsewhere}
use Rattle.audit_flows.proofs.TransfersLemmas.Ends.{opened, again, asked_as, either_is, spoken, asked_place}

-- ---- places that name good transfers alone

module _ (Good : Transfer → Type 0) where
  abbrev pub IsGood : Place → Type 0
  IsGood (Opens x) = Good x
  IsGood (Repeats x) = Good x
  IsGood (Talks x) = Good x
  IsGood (Apart c) = Unit {0}
  IsGood (Beside x) = Good x
  IsGood Nowhere = Unit {0}

  abbrev pub AreGood : List Placed → Type 0
  AreGood ps = AllByRecursion (λ p. IsGood p.place) ps

  -- ---- what a line has is what passed before

  live_good : (now : ℕ) (ps : List Placed) → AreGood ps → AreGood (live now ps)
  live_good now [] all = tt
  live_good now (p ∷ ps) all = by_test (nat_le now (p.moment + silence))
      (λ is. subst AreGood (sym (ap (λ b. if b then p ∷ ps else []) is)) all)
      (λ off. subst AreGood (sym (ap (λ b. if b then p ∷ ps else []) off)) tt)

  line_good : (c : Endpoint) (older : List Placed) → AreGood older → AreGood (line c older)
  line_good c [] all = tt
  line_good c (p ∷ older) all = by_test (is_at c p)
      (λ is. subst AreGood (sym (line_here c p older is)) (all.0, live_good p.moment (line c older) (line_good c older all.1)))
      (λ off. subst AreGood (sym (line_elsewhere c p older off)) (line_good c older all.1))

  lived_good : (c : Endpoint) (now : ℕ) (older : List Placed) → AreGood older → AreGood (live now (line c older))
  lived_good c now older all = live_good now (line c older) (line_good c older all)

  pub newest_good : (test : Placed → Bool) (ps : List Placed) (p : Placed) → AreGood ps → newest_of test ps ≡ Some p → IsGood p.place
  newest_good test [] p all found = absurd (cc)
  newest_good test (q ∷ ps) p all found = by_test (test q)
      (λ is. let same : Some q ≡ Some p = sym (ap (λ b. if b then Some q else newest_of test ps) is) ∙ found in
      let this : q ≡ p = cc in subst (λ r. IsGood r.place) this all.0)
      (λ off. newest_good test ps p all.1 (sym (ap (λ b. if b then Some q else newest_of test ps) off) ∙ found))

  -- ---- the transfers that a line tells of

  pub transfer_good : (place : Place) (x : Transfer) → IsGood place → transfer_of place ≡ Some x → Good x
  transfer_good (Opens y) x below is = let this : y ≡ x = cc in subst (λ z. Good z) this below
  transfer_good (Repeats y) x below is = let this : y ≡ x = cc in subst (λ z. Good z) this below
  transfer_good (Talks y) x below is = let this : y ≡ x = cc in subst (λ z. Good z) this below
  transfer_good _ x below is = absurd (cc)

  talked_good : (place : Place) (x : Transfer) → IsGood place → talked_of place ≡ Some x → Good x
  talked_good (Talks y) x below is = let this : y ≡ x = cc in subst (λ z. Good z) this below
  talked_good _ x below is = absurd (cc)

  pub latest_good : (ps : List Placed) (x : Transfer) → AreGood ps → latest_in ps ≡ Some x → Good x
  latest_good ps x all is = by (newest_of opens ps) refl where
    by : (found : Option Placed) → newest_of opens ps ≡ found → Good x
    by None none = let both : None ≡ Some x = rw none at is in absurd (cc)
    by (Some p) found =
        let this : transfer_of p.place ≡ Some x = rw found at is in
        transfer_good p.place x (newest_good opens ps p all found) this

  talks_good : (c o : Endpoint) (ps : List Placed) (t : Talk) (x : Transfer) → AreGood ps → talk_in c o ps ≡ Some t → t.transfer ≡ Some x → Good x
  talks_good c o ps t x all is of = by (newest_of (spoken c o) ps) refl where
    by : (found : Option Placed) → newest_of (spoken c o) ps ≡ found → Good x
    by None none = let both : None ≡ Some t = sym (ap (option_map (λ p. record { transfer = talked_of p.place; acked_0 = last_was_ack_0 c o ps })) none) ∙ is in absurd (cc)
    by (Some p) found =
        let same : Some (record { transfer = talked_of p.place; acked_0 = last_was_ack_0 c o ps }) ≡ Some t = sym (ap (option_map (λ q. record { transfer = talked_of q.place; acked_0 = last_was_ack_0 c o ps })) found) ∙ is in
        let this : record { transfer = talked_of p.place; acked_0 = last_was_ack_0 c o ps } ≡ t = cc in
        talked_good p.place x (newest_good (spoken c o) ps p all found) (ap (λ u. u.transfer) this ∙ of)

  -- ---- at a client

  chosen_good : (b : Bool) (one other : Place) → IsGood one → IsGood other → IsGood (if b then one else other)
  chosen_good true one other is also = is
  chosen_good false one other is also = also

  place_talk_good : (c o : Endpoint) (x : Transfer) (answered : Option Endpoint) (d : Recorded) (talk : Option Talk) → Good x
      → ((t : Talk) (y : Transfer) → talk ≡ Some t → t.transfer ≡ Some y → Good y) → IsGood (place_talked c o x answered d talk)
  place_talk_good c o x answered d None below talks = chosen_good (same_endpoint d.source c && not (is_known_host x answered o)) (Apart c) (Talks x) tt below
  place_talk_good c o x answered d (Some t) below talks = by t.transfer refl where
    by : (of : Option Transfer) → t.transfer ≡ of → IsGood (place_talked c o x answered d (Some t))
    by None is = rw is tt
    by (Some y) is = rw is (chosen_good _ (Talks x) (Talks y) below (talks t y refl is))

  place_at_good : (c o : Endpoint) (ps : List Placed) (d : Recorded) → AreGood ps → IsGood (place_at c o ps d)
  place_at_good c o ps d all = by (latest_in ps) refl where
    by : (found : Option Transfer) → latest_in ps ≡ found → IsGood (place_at c o ps d)
    by None is = rw is tt
    by (Some x) is = rw is (place_talk_good c o x (answered_in x ps) d (talk_in c o ps) (latest_good ps x all is) (λ t y. talks_good c o ps t y all))

  at_client_good : (older : List Placed) (now : ℕ) (d : Recorded) → ((c : Endpoint) → AreGood (live now (line c older))) → IsGood (at_client older now d)
  at_client_good older now d lines =
      elim (either_is (place_at d.source d.target (live now (line d.source older)) d) (place_at d.target d.source (live now (line d.target older)) d)) [
        | inl is ↦ subst IsGood (sym is) (place_at_good d.source d.target (live now (line d.source older)) d (lines d.source))
        | inr is ↦ subst IsGood (sym is) (place_at_good d.target d.source (live now (line d.target older)) d (lines d.target))
      ]

  -- ---- beside a server

  abbrev pub AreServedGood : Option Served → Type 0
  AreServedGood None = Unit {0}
  AreServedGood (Some s) = Good s.transfer

  abbrev pub IsOneGood : Option Transfer → Type 0
  IsOneGood None = Unit {0}
  IsOneGood (Some x) = Good x

  serves_good : (o : Endpoint) (d : Recorded) (now : ℕ) (place : Place) → IsGood place → AreServedGood (serves o (record { datagram = d; moment = now; place = place }))
  serves_good o d now (Talks x) below = by_test (goes o x.client d)
      (λ is. subst AreServedGood (sym (ap (λ b. if b then Some (record { transfer = x; moment = now }) else None) is)) below)
      (λ off. subst AreServedGood (sym (ap (λ b. if b then Some (record { transfer = x; moment = now }) else None) off)) tt)
  serves_good o d now _ below = tt

  newer_good : (one other : Option Served) → AreServedGood one → AreServedGood other → AreServedGood (newer one other)
  newer_good None other is also = also
  newer_good (Some s) other is also = is

  pub last_served_good : (o : Endpoint) (older : List Placed) → AreGood older → AreServedGood (last_served o older)
  last_served_good o [] all = tt
  last_served_good o (p ∷ older) all = newer_good (serves o p) (last_served o older) (serves_good o p.datagram p.moment p.place all.0) (last_served_good o older all.1)

  within_good : (now : ℕ) (last : Option Served) → AreServedGood last → IsOneGood (served_within now last)
  within_good now None below = tt
  within_good now (Some s) below = by_test (nat_le now (s.moment + silence))
      (λ is. subst IsOneGood (sym (ap (λ b. if b then Some s.transfer else None) is)) below)
      (λ off. subst IsOneGood (sym (ap (λ b. if b then Some s.transfer else None) off)) tt)

  served_good : (named : List ℕ) (older : List Placed) (now : ℕ) (o : Endpoint) → IsOneGood (served_by o now older) → IsOneGood (served_at named older now o)
  served_good named older now o served = by_test (is_service named older o.port)
      (λ is. subst IsOneGood (sym (ap (λ b. if b then None else served_by o now older) is)) tt)
      (λ off. subst IsOneGood (sym (ap (λ b. if b then None else served_by o now older) off)) served)

  beside_by_good : (one other : Option Transfer) → IsOneGood one → IsOneGood other → IsGood (beside_by one other)
  beside_by_good (Some x) other is also = is
  beside_by_good None (Some x) is also = also
  beside_by_good None None is also = tt

  beside_good : (named : List ℕ) (older : List Placed) (now : ℕ) (d : Recorded) → ((o : Endpoint) → IsOneGood (served_by o now older)) → IsGood (beside named older now d)
  beside_good named older now d served = beside_by_good (served_at named older now d.source) (served_at named older now d.target)
      (served_good named older now d.source (served d.source)) (served_good named older now d.target (served d.target))

  -- ---- requests

  asked_good : (older : List Placed) (now : ℕ) (d : Recorded) → Good (opening (length older) d) → ((c : Endpoint) → AreGood (live now (line c older))) → IsGood (asked_place older now d)
  asked_good older now d room lines = by (newest_of (λ p. not (is_apart p)) (live now (line d.source older))) refl where
    by : (found : Option Placed) → newest_of (λ p. not (is_apart p)) (live now (line d.source older)) ≡ found → IsGood (asked_place older now d)
    by None none = rw none room
    by (Some p) found =
        let is : asked_place older now d ≡ asked_after (opened_by (length older) d) p.place (is_again p.datagram d) = rw found refl in
        elim (asked_as p.place (is_again p.datagram d) (length older) d) [
          | opened e ↦ subst IsGood (sym (is ∙ e)) room
          | again x e of ↦ subst IsGood (sym (is ∙ e))
              (transfer_good p.place x (newest_good (λ q. not (is_apart q)) (live now (line d.source older)) p (lines d.source) found) of)
        ]

  pub place_good : (named : List ℕ) (older : List Placed) (now : ℕ) (d : Recorded) → Good (opening (length older) d) → ((c : Endpoint) → AreGood (live now (line c older))) → ((o : Endpoint) → IsOneGood (served_by o now older)) → IsGood (place_of named older now d)
  place_good named older now d room lines served = chosen_good (asks named older now d) (asked_place older now d) (if is_nowhere (at_client older now d) then beside named older now d else at_client older now d)
      (asked_good older now d room lines)
      (chosen_good (is_nowhere (at_client older now d)) (beside named older now d) (at_client older now d) (beside_good named older now d served) (at_client_good older now d lines))

  -- ---- what goes on: the lines that are not silent, and who served in the last 300 s

  pub record GoesOnGood (now : ℕ) (older : List Placed) : Type 0 where
    pub lines : (c : Endpoint) → AreGood (live now (line c older))
    pub served : (o : Endpoint) → IsOneGood (served_by o now older)

  -- where all are good, so is what goes on
  pub all_go_on : (now : ℕ) (older : List Placed) → AreGood older → GoesOnGood now older
  all_go_on now older all = record {
    lines = λ c. lived_good c now older all;
    served = λ o. within_good now (last_served o older) (last_served_good o older all);
  }

  later_line : (then_at now : ℕ) (ps : List Placed) → then_at ≤ now → AreGood (live then_at ps) → AreGood (live now ps)
  later_line then_at now ps later all = by_test (nat_le then_at (clock ps + silence))
      (λ is. live_good now ps (subst AreGood (live_is then_at ps is) all))
      (λ off. subst AreGood (sym (live_later then_at now ps later (live_not then_at ps off))) tt)

  later_served : (then_at now : ℕ) (last : Option Served) → then_at ≤ now → IsOneGood (served_within then_at last) → IsOneGood (served_within now last)
  later_served then_at now None later good = tt
  later_served then_at now (Some s) later good = by_test (nat_le now (s.moment + silence))
      (λ is. by_test (nat_le then_at (s.moment + silence))
      (λ was. subst IsOneGood (sym (ap (λ b. if b then Some s.transfer else None) is)) (subst IsOneGood (ap (λ b. if b then Some s.transfer else None) was) good))
      (λ off. let both : true ≡ false = sym is ∙ still_false then_at now (s.moment + silence) later off in absurd (cc)))
      (λ off. subst IsOneGood (sym (ap (λ b. if b then Some s.transfer else None) off)) tt)

  pub go_on_later : (then_at now : ℕ) (older : List Placed) → then_at ≤ now → GoesOnGood then_at older → GoesOnGood now older
  go_on_later then_at now older later good = record {
    lines = λ c. later_line then_at now (line c older) later (good.lines c);
    served = λ o. later_served then_at now (last_served o older) later (good.served o);
  }

  served_more : (now : ℕ) (one other : Option Served) → AreServedGood one → IsOneGood (served_within now other) → IsOneGood (served_within now (newer one other))
  served_more now None other good before = before
  served_more now (Some s) other good before = within_good now (Some s) good

  -- one good datagram more
  pub go_on_with : (p : Placed) (older : List Placed) → IsGood p.place → GoesOnGood p.moment older → GoesOnGood p.moment (p ∷ older)
  go_on_with p older good before = record {
    lines = λ c. by_test (is_at c p)
        (λ is. subst (λ l. AreGood (live p.moment l)) (sym (line_here c p older is)) (live_good p.moment (p ∷ live p.moment (line c older)) (good, before.lines c)))
        (λ off. subst (λ l. AreGood (live p.moment l)) (sym (line_elsewhere c p older off)) (before.lines c));
    served = λ o. served_more p.moment (serves o p) (last_served o older) (serves_good o p.datagram p.moment p.place good) (before.served o);
  }

-- ---- good of one is good of the other

good_place : (One Other : Transfer → Type 0) → ((x : Transfer) → One x → Other x) → (place : Place) → IsGood One place → IsGood Other place
good_place One Other more (Apart c) is = tt
good_place One Other more Nowhere is = tt
good_place One Other more (Opens x) is = more x is
good_place One Other more (Repeats x) is = more x is
good_place One Other more (Talks x) is = more x is
good_place One Other more (Beside x) is = more x is

pub all_good : (One Other : Transfer → Type 0) → ((x : Transfer) → One x → Other x) → (ps : List Placed) → AreGood One ps → AreGood Other ps
all_good One Other more [] all = tt
all_good One Other more (p ∷ ps) all = (good_place One Other more p.place all.0, all_good One Other more ps all.1)
