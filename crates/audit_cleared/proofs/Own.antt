-- What the datagrams of a transfer at its client are: its requests, which the client sent, and what passed between the client
-- and another, of which none is a request to the port where the client asks.
use Rattle.std.proofs.Common.{◌≡◌, ◌⊎◌, ◌+◌, ◌≤◌, ℕ, Bool, true, false, cond, List, [], ◌∷◌, Option, Some, None, inl, inr, refl, sym, ap, subst, arith, ◌∙◌, ◌==◌, ◌&&◌, ◌||◌, not, max, nat_le, bytes_eq, is_some, length, if◌then◌else◌}
use Rattle.std.specs.List.{AllByRecursion}
use Rattle.std.proofs.lemmas.Bool.{false≢true, eqb-true, eq-eqb, and_from, and_parts, or_left}
use Rattle.std.proofs.lemmas.List.Elements.{recursion_from_All}
use Rattle.law_end.proofs.Division.Divided.{any_none, any_cases, any_first, any_later}
use Rattle.audit_flows.specs.Lines.{Recorded, begins_request, is_again, goes, same_endpoint, silence, Placed, clock, is_apart, is_at, is_of, is_request, line, live, newest_of, asked_after, opened_by, talk_in}
use Rattle.audit_flows.specs.{Endpoint, Place, Opens, Repeats, Talks, Transfer}
use Rattle.audit_flows.specs.Transfers.{asks, at_client, beside, client_view, is_about, is_client, is_nowhere, is_service, place_of, placed, served_at}
use Rattle.audit_flows.proofs.LinesLemmas.Endpoints.{is_same}
use Rattle.audit_flows.proofs.LinesLemmas.Lines.{by_test}
use Rattle.audit_flows.proofs.TransfersLemmas.AllLines.{line_here, line_elsewhere}
use Rattle.audit_flows.proofs.TransfersLemmas.Ends.{asked_place, asked_as, opened, again, placed_where, IsEndAt, beside_end, client_end}
use Rattle.audit_flows.proofs.TransfersLemmas.Numbers.{length_placed, none_before, opening_number}
use Rattle.audit_cleared.specs.{IsOpenedIn}
use Rattle.audit_cleared.proofs.Opened.{IsHeld, all_opened, opened_one}

-- a datagram of the transfer, as it passed at the client
pub data IsOwn (x : Transfer) (p : Placed) : Type 0 where
  as_request : is_request p ≡ true → begins_request p.datagram.payload ≡ true → p.datagram.source ≡ x.client → p.datagram.target ≡ x.asked → IsOwn x p
  as_talk : p.place ≡ Talks x → (x.client ≡ p.datagram.source) ⊎ (x.client ≡ p.datagram.target)
      → (begins_request p.datagram.payload ≡ true → p.datagram.target.port ≡ x.asked.port → ⊥) → IsOwn x p

-- ---- what is talked asks nothing

-- a request is no talk
module _ (named : List ℕ) (older : List Placed) (now : ℕ) (d : Recorded) where
  asked_not : (x : Transfer) → asked_place older now d ≡ Talks x → ⊥
  asked_not x talks = by (newest_of (λ p. not (is_apart p)) (live now (line d.source older))) refl where
    by : (found : Option Placed) → newest_of (λ p. not (is_apart p)) (live now (line d.source older)) ≡ found → ⊥
    by None none = let both : opened_by (length older) d ≡ Talks x = rw none at talks in absurd (cc)
    by (Some p) found =
        let is : asked_after (opened_by (length older) d) p.place (is_again p.datagram d) ≡ Talks x = rw found at talks in
        elim (asked_as p.place (is_again p.datagram d) (length older) d) [
          | opened e ↦ let both : opened_by (length older) d ≡ Talks x = sym e ∙ is in absurd (cc)
          | again y e of ↦ let both : Repeats y ≡ Talks x = sym e ∙ is in absurd (cc)
        ]

  other_place : asks named older now d ≡ false → place_of named older now d ≡ (if is_nowhere (at_client older now d) then beside named older now d else at_client older now d)
  other_place off = ap (λ b. if b then asked_place older now d else if is_nowhere (at_client older now d) then beside named older now d else at_client older now d) off

  -- what is no request has its place by the ends that it passed between
  ends_there : asks named older now d ≡ false → IsEndAt older now d (place_of named older now d)
  ends_there off = subst (IsEndAt older now d) (sym (other_place off)) (by_test (is_nowhere (at_client older now d))
      (λ is. subst (IsEndAt older now d) (sym (ap (λ b. if b then beside named older now d else at_client older now d) is)) (beside_end older now d (served_at named older now d.source) (served_at named older now d.target)))
      (λ there. subst (IsEndAt older now d) (sym (ap (λ b. if b then beside named older now d else at_client older now d) there)) (client_end older now d)))

  -- and opens and repeats nothing
  abbrev at_no_client : Bool
  at_no_client = not (is_client older now d.target)
      && (is_service named older d.target.port || (d.is_spelled && not (is_some (talk_in d.source d.target (live now (line d.source older))))))

  request_begins : (asks named older now d ≡ false → ⊥) → begins_request d.payload ≡ true
  request_begins not_off = by_test (asks named older now d)
      (λ is. (and_parts (begins_request d.payload) (is_service named [] d.target.port || at_no_client) is).0)
      (λ off. absurd (not_off off))

  not_asked : (x : Transfer) → asks named older now d ≡ true → place_of named older now d ≡ Talks x → ⊥
  not_asked x is talks = asked_not x (sym (ap (λ b. if b then asked_place older now d else if is_nowhere (at_client older now d) then beside named older now d else at_client older now d) is) ∙ talks)

  service_asks : begins_request d.payload ≡ true → is_service named [] d.target.port ≡ true → asks named older now d ≡ true
  service_asks begins there = and_from (begins_request d.payload) (is_service named [] d.target.port || at_no_client) begins (or_left (is_service named [] d.target.port) at_no_client there)

-- the port where a transfer was opened is a service port
asked_there : (named : List ℕ) (older : List Placed) (now : ℕ) (d : Recorded) (x : Transfer) → place_of named older now d ≡ Opens x → (x.client ≡ d.source) × (x.asked ≡ d.target)
asked_there named older now d x is = (placed_where named older now d).opens x is

-- ---- each request of a transfer goes where its client asks

module _ (P : Placed → Type 0) where
  live_all : (now : ℕ) (ps : List Placed) → AllByRecursion P ps → AllByRecursion P (live now ps)
  live_all now [] all = tt
  live_all now (p ∷ ps) all = by_test (nat_le now (p.moment + silence))
      (λ is. subst (AllByRecursion P) (sym (ap (λ b. if b then p ∷ ps else []) is)) all)
      (λ off. subst (AllByRecursion P) (sym (ap (λ b. if b then p ∷ ps else []) off)) tt)

  line_all : (c : Endpoint) (older : List Placed) → AllByRecursion P older → AllByRecursion P (line c older)
  line_all c [] all = tt
  line_all c (p ∷ older) all = by_test (is_at c p)
      (λ is. subst (AllByRecursion P) (sym (line_here c p older is)) (all.0, live_all p.moment (line c older) (line_all c older all.1)))
      (λ off. subst (AllByRecursion P) (sym (line_elsewhere c p older off)) (line_all c older all.1))

  newest_all : (test : Placed → Bool) (ps : List Placed) (p : Placed) → AllByRecursion P ps → newest_of test ps ≡ Some p → P p
  newest_all test [] p all found = absurd (cc)
  newest_all test (q ∷ ps) p all found = by_test (test q)
      (λ is. let same : Some q ≡ Some p = sym (ap (λ b. if b then Some q else newest_of test ps) is) ∙ found in
      let this : q ≡ p = cc in subst P this all.0)
      (λ off. newest_all test ps p all.1 (sym (ap (λ b. if b then Some q else newest_of test ps) off) ∙ found))

-- it is a request of the transfer
abbrev AsksIn : Placed → Transfer → Type 0
AsksIn p y = (p.place ≡ Opens y) ⊎ (p.place ≡ Repeats y)

abbrev GoesThere : Placed → Type 0
GoesThere p = (y : Transfer) → AsksIn p y → p.datagram.target ≡ y.asked

-- a request that repeats goes where that one went
repeats_as : (place : Place) (y : Transfer) (b : Bool) (number : ℕ) (d : Recorded) → asked_after (opened_by number d) place b ≡ Repeats y → (b ≡ true) × ((place ≡ Opens y) ⊎ (place ≡ Repeats y))
repeats_as (Opens z) y true number d is = (refl, inl (let same : z ≡ y = cc in ap Opens same))
repeats_as (Repeats z) y true number d is = (refl, inr (let same : z ≡ y = cc in ap Repeats same))
repeats_as _ y b number d is = absurd (cc)

again_there : (p : Placed) (d : Recorded) → is_again p.datagram d ≡ true → d.target ≡ p.datagram.target
again_there p d is =
    let ways = (and_parts (bytes_eq p.datagram.payload d.payload) (goes d.source d.target p.datagram) is).1 in
    sym (is_same p.datagram.target d.target (and_parts (same_endpoint p.datagram.source d.source) (same_endpoint p.datagram.target d.target) ways).1)

repeated_there : (older : List Placed) (now : ℕ) (d : Recorded) (y : Transfer) → AllByRecursion GoesThere older → asked_place older now d ≡ Repeats y → d.target ≡ y.asked
repeated_there older now d y all is = by (newest_of (λ p. not (is_apart p)) (live now (line d.source older))) refl where
  by : (found : Option Placed) → newest_of (λ p. not (is_apart p)) (live now (line d.source older)) ≡ found → d.target ≡ y.asked
  by None none = let both : opened_by (length older) d ≡ Repeats y = rw none at is in absurd (cc)
  by (Some p) found =
      let after : asked_after (opened_by (length older) d) p.place (is_again p.datagram d) ≡ Repeats y = rw found at is in
      let both = repeats_as p.place y (is_again p.datagram d) (length older) d after in
      again_there p d both.0 ∙ newest_all GoesThere (λ q. not (is_apart q)) (live now (line d.source older)) p (live_all GoesThere now (line d.source older) (line_all GoesThere d.source older all)) found y both.1

all_there : (named : List ℕ) (recorded : List Recorded) → AllByRecursion GoesThere (placed named recorded)
all_there named [] = tt
all_there named (d ∷ recorded) = (here_there named recorded d (all_there named recorded), all_there named recorded) where
  here_there : (named : List ℕ) (recorded : List Recorded) (d : Recorded) → AllByRecursion GoesThere (placed named recorded)
      → GoesThere (record { datagram = d; moment = max d.time (clock (placed named recorded)); place = place_of named (placed named recorded) (max d.time (clock (placed named recorded))) d })
  here_there named recorded d all y (inl opens) = sym (asked_there named (placed named recorded) (max d.time (clock (placed named recorded))) d y opens).1
  here_there named recorded d all y (inr repeats) = repeated_there (placed named recorded) (max d.time (clock (placed named recorded))) d y all
      ((placed_where named (placed named recorded) (max d.time (clock (placed named recorded))) d).repeats y repeats).1

-- ---- one datagram

module _ (named : List ℕ) (recorded : List Recorded) (d : Recorded) (x : Transfer) where
  abbrev older : List Placed
  older = placed named recorded

  abbrev now : ℕ
  now = max d.time (clock (placed named recorded))

  abbrev here : Placed
  here = record { datagram = d; moment = max d.time (clock (placed named recorded)); place = place_of named (placed named recorded) (max d.time (clock (placed named recorded))) d }

  same_one : IsOpenedIn x (placed named (d ∷ recorded)) → (y : Transfer) → IsOpenedIn y (placed named (d ∷ recorded)) → (y.number == x.number) ≡ true → y ≡ x
  same_one is y other same = opened_one named (d ∷ recorded) y x other is (eqb-true y.number x.number same)

  talk_own : is_service named [] x.asked.port ≡ true → here.place ≡ Talks x → IsOwn x here
  talk_own at_service talks = as_talk talks ((placed_where named older now d).talks x talks).0 (λ begins port.
      not_asked named older now d x (service_asks named older now d begins (subst (λ n. is_service named [] n ≡ true) (sym port) at_service)) talks)

  own_here : is_service named [] x.asked.port ≡ true → IsOpenedIn x (placed named (d ∷ recorded)) → is_of x.number here ≡ true → IsOwn x here
  own_here at_service is of = by here.place refl of (all_opened named (d ∷ recorded)).0 where
    by : (place : Place) → here.place ≡ place → is_of x.number (record { datagram = d; moment = now; place = place }) ≡ true → IsHeld (λ y. IsOpenedIn y (placed named (d ∷ recorded))) place → IsOwn x here
    by (Opens y) at of held =
        let begins : begins_request d.payload ≡ true = request_begins named older now d (λ off. (ends_there named older now d off).opens y at) in
        let same : y ≡ x = same_one is y held of in
        let ends = asked_there named older now d y at in
        as_request (rw at refl) begins (sym ends.0 ∙ ap (λ (z : Transfer). z.client) same) (sym ends.1 ∙ ap (λ (z : Transfer). z.asked) same)
    by (Repeats y) at of held =
        let begins : begins_request d.payload ≡ true = request_begins named older now d (λ off. (ends_there named older now d off).repeats y at) in
        let same : y ≡ x = same_one is y held of in
        as_request (rw at refl) begins (sym ((placed_where named older now d).repeats y at).0 ∙ ap (λ (z : Transfer). z.client) same) ((all_there named (d ∷ recorded)).0 y (inr at) ∙ ap (λ (z : Transfer). z.asked) same)
    by (Talks y) at of held = talk_own at_service (at ∙ ap Talks (same_one is y held of))
    by _ at of held = absurd (false≢true of)

-- ---- all of them

not_of : (n : ℕ) (p : Placed) → is_about n p ≡ false → is_of n p ≡ false
not_of n p off = by p.place off where
  by : (place : Place) → is_about n (record { datagram = p.datagram; moment = p.moment; place = place }) ≡ false → is_of n (record { datagram = p.datagram; moment = p.moment; place = place }) ≡ false
  by (Opens x) off = off
  by (Repeats x) off = off
  by (Talks x) off = off
  by _ off = refl

none_of : (n : ℕ) (ps : List Placed) → AllByRecursion (λ p. is_about n p ≡ false) ps → client_view n ps ≡ []
none_of n [] none = refl
none_of n (p ∷ ps) none = ap (λ b. cond b (p ∷ client_view n ps) (client_view n ps)) (not_of n p none.0) ∙ none_of n ps none.1

pub opened_after : (named : List ℕ) (recorded : List Recorded) (d : Recorded) (x : Transfer) → place_of named (placed named recorded) (max d.time (clock (placed named recorded))) d ≡ Opens x → length recorded ≤ x.number
opened_after named recorded d x opens =
    let number : x.number ≡ length (placed named recorded) = opening_number named (placed named recorded) (max d.time (clock (placed named recorded))) d x opens in
    let count : length (placed named recorded) ≡ length recorded = length_placed named recorded in
    omega arith

pub own_all : (named : List ℕ) (recorded : List Recorded) (x : Transfer) → is_service named [] x.asked.port ≡ true → IsOpenedIn x (placed named recorded) → AllByRecursion (IsOwn x) (client_view x.number (placed named recorded))
own_all named [] x at_service is = absurd (any_none (λ (q : Placed). q.place ≡ Opens x) is)
own_all named (d ∷ recorded) x at_service is = elim (any_cases (λ (q : Placed). q.place ≡ Opens x) (here named recorded d x) (placed named recorded) is) [
  | inl now ↦ with_this named recorded d x at_service is (subst (AllByRecursion (IsOwn x)) (sym (none_of x.number (placed named recorded)
      (recursion_from_All (λ p. is_about x.number p ≡ false) (placed named recorded) (none_before named recorded x.number (opened_after named recorded d x now))))) tt)
  | inr before ↦ with_this named recorded d x at_service is (own_all named recorded x at_service before)
]
  where
    with_this : (named : List ℕ) (recorded : List Recorded) (d : Recorded) (x : Transfer) → is_service named [] x.asked.port ≡ true → IsOpenedIn x (placed named (d ∷ recorded)) → AllByRecursion (IsOwn x) (client_view x.number (placed named recorded))
        → AllByRecursion (IsOwn x) (client_view x.number (placed named (d ∷ recorded)))
    with_this named recorded d x at_service is before = by_test (is_of x.number (here named recorded d x))
        (λ of. subst (AllByRecursion (IsOwn x)) (sym (ap (λ b. cond b (here named recorded d x ∷ client_view x.number (placed named recorded)) (client_view x.number (placed named recorded))) of)) (own_here named recorded d x at_service is of, before))
        (λ off. subst (AllByRecursion (IsOwn x)) (sym (ap (λ b. cond b (here named recorded d x ∷ client_view x.number (placed named recorded)) (client_view x.number (placed named recorded))) off)) before)

-- the opening is one of them
opens_of : (x : Transfer) (p : Placed) → p.place ≡ Opens x → is_of x.number p ≡ true
opens_of x p is = rw is (eq-eqb x.number x.number refl)

pub opened_own : (x : Transfer) (ps : List Placed) → IsOpenedIn x ps → IsOpenedIn x (client_view x.number ps)
opened_own x [] is = is
opened_own x (p ∷ ps) is = elim (any_cases (λ (q : Placed). q.place ≡ Opens x) p ps is) [
  | inl now ↦ subst (IsOpenedIn x) (sym (ap (λ b. cond b (p ∷ client_view x.number ps) (client_view x.number ps)) (opens_of x p now))) (any_first (λ (q : Placed). q.place ≡ Opens x) p (client_view x.number ps) now)
  | inr before ↦ by_test (is_of x.number p)
      (λ of. subst (IsOpenedIn x) (sym (ap (λ b. cond b (p ∷ client_view x.number ps) (client_view x.number ps)) of)) (any_later (λ (q : Placed). q.place ≡ Opens x) p (client_view x.number ps) (opened_own x ps before)))
      (λ off. subst (IsOpenedIn x) (sym (ap (λ b. cond b (p ∷ client_view x.number ps) (client_view x.number ps)) off)) (opened_own x ps before))
]
