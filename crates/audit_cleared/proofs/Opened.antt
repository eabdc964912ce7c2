-- Each transfer that a place names was opened by a datagram before it or by itself, and one number is one transfer's.
use Rattle.std.proofs.Common.{◌≡◌, ◌⊎◌, ◌<◌, ℕ, ◌+◌, Bool, true, false, List, [], ◌∷◌, Option, Some, None, inl, inr, arith, refl, sym, ap, subst, ◌∙◌, not, ◌&&◌, nat_le, max, option_map, length, if◌then◌else◌}
use Rattle.std.specs.List.{AllByRecursion}
use Rattle.law_end.proofs.Division.Divided.{any_none, any_cases, any_first, any_later}
use Rattle.audit_flows.specs.Lines.{Recorded, same_endpoint, is_again, Placed, opens, is_apart, is_at, newest_of, live, line, silence, transfer_of, latest_in, answered_in, talked_of, talk_in, place_talked, place_at, opened_by, asked_after, is_known_host, last_was_ack_0, clock}
use Rattle.audit_flows.specs.{Endpoint, Place, Opens, Repeats, Talks, Apart, Transfer, Talk}
use Rattle.audit_flows.specs.Transfers.{at_client, beside, beside_by, served_at, is_nowhere, asks, place_of, placed}
use Rattle.audit_flows.proofs.LinesLemmas.Lines.{by_test}
use Rattle.audit_flows.proofs.TransfersLemmas.AllLines.{line_here, line_elsewhere}
use Rattle.audit_flows.proofs.TransfersLemmas.Ends.{opened, again, asked_as, either_is, spoken, asked_place}
use Rattle.audit_flows.proofs.TransfersLemmas.Numbers.{AreBelow, IsBelow, placed_below, length_placed, opening_number}
use Rattle.audit_cleared.specs.{IsOpenedIn}

-- ---- the transfer that a place names at its client

module _ (Holds : Transfer → Type 0) where
  abbrev pub IsHeld : Place → Type 0
  IsHeld (Opens x) = Holds x
  IsHeld (Repeats x) = Holds x
  IsHeld (Talks x) = Holds x
  IsHeld _ = Unit {0}

  -- the same of a place that may open one
  abbrev pub IsHeldOrOpens : Place → Type 0
  IsHeldOrOpens (Repeats x) = Holds x
  IsHeldOrOpens (Talks x) = Holds x
  IsHeldOrOpens _ = Unit {0}

  abbrev pub AreHeld : List Placed → Type 0
  AreHeld ps = AllByRecursion (λ p. IsHeld p.place) ps

  live_held : (now : ℕ) (ps : List Placed) → AreHeld ps → AreHeld (live now ps)
  live_held now [] all = tt
  live_held now (p ∷ ps) all = by_test (nat_le now (p.moment + silence))
      (λ is. subst AreHeld (sym (ap (λ b. if b then p ∷ ps else []) is)) all)
      (λ off. subst AreHeld (sym (ap (λ b. if b then p ∷ ps else []) off)) tt)

  line_held : (c : Endpoint) (older : List Placed) → AreHeld older → AreHeld (line c older)
  line_held c [] all = tt
  line_held c (p ∷ older) all = by_test (is_at c p)
      (λ is. subst AreHeld (sym (line_here c p older is)) (all.0, live_held p.moment (line c older) (line_held c older all.1)))
      (λ off. subst AreHeld (sym (line_elsewhere c p older off)) (line_held c older all.1))

  lived_held : (c : Endpoint) (now : ℕ) (older : List Placed) → AreHeld older → AreHeld (live now (line c older))
  lived_held c now older all = live_held now (line c older) (line_held c older all)

  newest_held : (test : Placed → Bool) (ps : List Placed) (p : Placed) → AreHeld ps → newest_of test ps ≡ Some p → IsHeld p.place
  newest_held test [] p all found = absurd (cc)
  newest_held test (q ∷ ps) p all found = by_test (test q)
      (λ is. let same : Some q ≡ Some p = sym (ap (λ b. if b then Some q else newest_of test ps) is) ∙ found in
      let this : q ≡ p = cc in subst (λ r. IsHeld r.place) this all.0)
      (λ off. newest_held test ps p all.1 (sym (ap (λ b. if b then Some q else newest_of test ps) off) ∙ found))

  -- ---- the transfers that a line tells of

  pub transfer_held : (place : Place) (x : Transfer) → IsHeld place → transfer_of place ≡ Some x → Holds x
  transfer_held (Opens y) x held is = let this : y ≡ x = cc in subst Holds this held
  transfer_held (Repeats y) x held is = let this : y ≡ x = cc in subst Holds this held
  transfer_held (Talks y) x held is = let this : y ≡ x = cc in subst Holds this held
  transfer_held _ x held is = absurd (cc)

  talked_held : (place : Place) (x : Transfer) → IsHeld place → talked_of place ≡ Some x → Holds x
  talked_held (Talks y) x held is = let this : y ≡ x = cc in subst Holds this held
  talked_held _ x held is = absurd (cc)

  latest_held : (ps : List Placed) (x : Transfer) → AreHeld ps → latest_in ps ≡ Some x → Holds x
  latest_held ps x all is = by (newest_of opens ps) refl where
    by : (found : Option Placed) → newest_of opens ps ≡ found → Holds x
    by None none = let both : None ≡ Some x = rw none at is in absurd (cc)
    by (Some p) found =
        let this : transfer_of p.place ≡ Some x = rw found at is in
        transfer_held p.place x (newest_held opens ps p all found) this

  talks_held : (c o : Endpoint) (ps : List Placed) (t : Talk) (x : Transfer) → AreHeld ps → talk_in c o ps ≡ Some t → t.transfer ≡ Some x → Holds x
  talks_held c o ps t x all is of = by (newest_of (spoken c o) ps) refl where
    by : (found : Option Placed) → newest_of (spoken c o) ps ≡ found → Holds x
    by None none = let both : None ≡ Some t = sym (ap (option_map (λ p. record { transfer = talked_of p.place; acked_0 = last_was_ack_0 c o ps })) none) ∙ is in absurd (cc)
    by (Some p) found =
        let same : Some (record { transfer = talked_of p.place; acked_0 = last_was_ack_0 c o ps }) ≡ Some t = sym (ap (option_map (λ q. record { transfer = talked_of q.place; acked_0 = last_was_ack_0 c o ps })) found) ∙ is in
        let this : record { transfer = talked_of p.place; acked_0 = last_was_ack_0 c o ps } ≡ t = cc in
        talked_held p.place x (newest_held (spoken c o) ps p all found) (ap (λ u. u.transfer) this ∙ of)

  -- ---- the place of a datagram

  chosen_held : (b : Bool) (one other : Place) → IsHeldOrOpens one → IsHeldOrOpens other → IsHeldOrOpens (if b then one else other)
  chosen_held true one other is also = is
  chosen_held false one other is also = also

  place_talk_held : (c o : Endpoint) (x : Transfer) (answered : Option Endpoint) (d : Recorded) (talk : Option Talk) → Holds x
      → ((t : Talk) (y : Transfer) → talk ≡ Some t → t.transfer ≡ Some y → Holds y) → IsHeldOrOpens (place_talked c o x answered d talk)
  place_talk_held c o x answered d None held talks = chosen_held (same_endpoint d.source c && not (is_known_host x answered o)) (Apart c) (Talks x) tt held
  place_talk_held c o x answered d (Some t) held talks = by t.transfer refl where
    by : (of : Option Transfer) → t.transfer ≡ of → IsHeldOrOpens (place_talked c o x answered d (Some t))
    by None is = rw is tt
    by (Some y) is = rw is (chosen_held _ (Talks x) (Talks y) held (talks t y refl is))

  place_at_held : (c o : Endpoint) (ps : List Placed) (d : Recorded) → AreHeld ps → IsHeldOrOpens (place_at c o ps d)
  place_at_held c o ps d all = by (latest_in ps) refl where
    by : (found : Option Transfer) → latest_in ps ≡ found → IsHeldOrOpens (place_at c o ps d)
    by None is = rw is tt
    by (Some x) is = rw is (place_talk_held c o x (answered_in x ps) d (talk_in c o ps) (latest_held ps x all is) (λ t y. talks_held c o ps t y all))

  at_client_held : (older : List Placed) (now : ℕ) (d : Recorded) → AreHeld older → IsHeldOrOpens (at_client older now d)
  at_client_held older now d all =
      elim (either_is (place_at d.source d.target (live now (line d.source older)) d) (place_at d.target d.source (live now (line d.target older)) d)) [
        | inl is ↦ subst IsHeldOrOpens (sym is) (place_at_held d.source d.target (live now (line d.source older)) d (lived_held d.source now older all))
        | inr is ↦ subst IsHeldOrOpens (sym is) (place_at_held d.target d.source (live now (line d.target older)) d (lived_held d.target now older all))
      ]

  beside_held : (one other : Option Transfer) → IsHeldOrOpens (beside_by one other)
  beside_held (Some x) other = tt
  beside_held None (Some x) = tt
  beside_held None None = tt

  asked_held : (older : List Placed) (now : ℕ) (d : Recorded) → AreHeld older → IsHeldOrOpens (asked_place older now d)
  asked_held older now d all = by (newest_of (λ p. not (is_apart p)) (live now (line d.source older))) refl where
    by : (found : Option Placed) → newest_of (λ p. not (is_apart p)) (live now (line d.source older)) ≡ found → IsHeldOrOpens (asked_place older now d)
    by None none = rw none tt
    by (Some p) found =
        let is : asked_place older now d ≡ asked_after (opened_by (length older) d) p.place (is_again p.datagram d) = rw found refl in
        elim (asked_as p.place (is_again p.datagram d) (length older) d) [
          | opened e ↦ subst IsHeldOrOpens (sym (is ∙ e)) tt
          | again x e of ↦ subst IsHeldOrOpens (sym (is ∙ e))
              (transfer_held p.place x (newest_held (λ q. not (is_apart q)) (live now (line d.source older)) p (lived_held d.source now older all) found) of)
        ]

  pub place_held : (named : List ℕ) (older : List Placed) (now : ℕ) (d : Recorded) → AreHeld older → IsHeldOrOpens (place_of named older now d)
  place_held named older now d all = chosen_held (asks named older now d) (asked_place older now d) (if is_nowhere (at_client older now d) then beside named older now d else at_client older now d)
      (asked_held older now d all)
      (chosen_held (is_nowhere (at_client older now d)) (beside named older now d) (at_client older now d)
      (beside_held (served_at named older now d.source) (served_at named older now d.target)) (at_client_held older now d all))

-- ---- so it was opened

held_later : (p : Placed) (older : List Placed) (ps : List Placed) → AreHeld (λ x. IsOpenedIn x older) ps → AreHeld (λ x. IsOpenedIn x (p ∷ older)) ps
held_later p older [] all = tt
held_later p older (q ∷ ps) all = (by q.place all.0, held_later p older ps all.1) where
  later : (x : Transfer) → IsOpenedIn x older → IsOpenedIn x (p ∷ older)
  later x is = any_later (λ (q : Placed). q.place ≡ Opens x) p older is

  by : (place : Place) → IsHeld (λ x. IsOpenedIn x older) place → IsHeld (λ x. IsOpenedIn x (p ∷ older)) place
  by (Opens x) is = later x is
  by (Repeats x) is = later x is
  by (Talks x) is = later x is
  by _ is = tt

held_now : (p : Placed) (older : List Placed) → IsHeldOrOpens (λ x. IsOpenedIn x older) p.place → IsHeld (λ x. IsOpenedIn x (p ∷ older)) p.place
held_now p older is = by p.place refl is where
  by : (place : Place) → p.place ≡ place → IsHeldOrOpens (λ x. IsOpenedIn x older) place → IsHeld (λ x. IsOpenedIn x (p ∷ older)) place
  by (Opens x) same is = any_first (λ (q : Placed). q.place ≡ Opens x) p older same
  by (Repeats x) same is = any_later (λ (q : Placed). q.place ≡ Opens x) p older is
  by (Talks x) same is = any_later (λ (q : Placed). q.place ≡ Opens x) p older is
  by _ same is = tt

opened_more : (named : List ℕ) (older : List Placed) (p : Placed) (now : ℕ) → p.place ≡ place_of named older now p.datagram → AreHeld (λ x. IsOpenedIn x older) older → AreHeld (λ x. IsOpenedIn x (p ∷ older)) (p ∷ older)
opened_more named older p now is before = (
  held_now p older (subst (IsHeldOrOpens (λ x. IsOpenedIn x older)) (sym is) (place_held (λ x. IsOpenedIn x older) named older now p.datagram before)),
  held_later p older older before,
)

pub all_opened : (named : List ℕ) (recorded : List Recorded) → AreHeld (λ x. IsOpenedIn x (placed named recorded)) (placed named recorded)
all_opened named [] = tt
all_opened named (d ∷ recorded) =
    let older : List Placed = placed named recorded in
    let now : ℕ = max d.time (clock older) in
    opened_more named older (record { datagram = d; moment = now; place = place_of named older now d }) now refl (all_opened named recorded)

-- ---- one number is one transfer's

-- the number is that of an opening in the list
opened_below : (bound : ℕ) (ps : List Placed) (x : Transfer) → AreBelow bound ps → IsOpenedIn x ps → x.number < bound
opened_below bound [] x below is = absurd (any_none (λ (q : Placed). q.place ≡ Opens x) is)
opened_below bound (p ∷ ps) x below is = elim (any_cases (λ (q : Placed). q.place ≡ Opens x) p ps is) [
  | inl now ↦ subst (IsBelow bound) now below.0
  | inr before ↦ opened_below bound ps x below.1 before
]

not_both : (named : List ℕ) (d : Recorded) (recorded : List Recorded) (x y : Transfer) → place_of named (placed named recorded) (max d.time (clock (placed named recorded))) d ≡ Opens x
    → IsOpenedIn y (placed named recorded) → x.number ≡ y.number → ⊥
not_both named d recorded x y now before same =
    let number : x.number ≡ length (placed named recorded) = opening_number named (placed named recorded) (max d.time (clock (placed named recorded))) d x now in
    let count : length (placed named recorded) ≡ length recorded = length_placed named recorded in
    let below : y.number < length recorded = opened_below (length recorded) (placed named recorded) y (placed_below named recorded) before in
    omega arith

pub opened_one : (named : List ℕ) (recorded : List Recorded) (x y : Transfer) → IsOpenedIn x (placed named recorded) → IsOpenedIn y (placed named recorded) → x.number ≡ y.number → x ≡ y
opened_one named [] x y one other same = absurd (any_none (λ (q : Placed). q.place ≡ Opens x) one)
opened_one named (d ∷ recorded) x y one other same = by
    (any_cases (λ (q : Placed). q.place ≡ Opens x) (here) (placed named recorded) one)
    (any_cases (λ (q : Placed). q.place ≡ Opens y) (here) (placed named recorded) other)
    (λ before also. opened_one named recorded x y before also same)
  where
    here : Placed
    here = record { datagram = d; moment = max d.time (clock (placed named recorded)); place = place_of named (placed named recorded) (max d.time (clock (placed named recorded))) d }

    by : (here.place ≡ Opens x) ⊎ IsOpenedIn x (placed named recorded) → (here.place ≡ Opens y) ⊎ IsOpenedIn y (placed named recorded)
        → (IsOpenedIn x (placed named recorded) → IsOpenedIn y (placed named recorded) → x ≡ y) → x ≡ y
    by (inl now) (inl also) more = let both : Opens x ≡ Opens y = sym now ∙ also in cc
    by (inl now) (inr before) more = absurd (not_both named d recorded x y now before same)
    by (inr before) (inl now) more = absurd (not_both named d recorded y x now before (sym same))
    by (inr before) (inr also) more = more before also
