-- A recording at clients whose captures follow one another, and what else passed.
use Rattle.std.proofs.Common.{◌≡◌, ◌⊎◌, ◌≤◌, ◌+◌, ◌==◌, ◌&&◌, ◌||◌, not, is_some, length, Option, None, if◌then◌else◌, ℕ, Bool, true, false, List, [], ◌∷◌, ◌++◌, Some, Contains, inl, inr, refl, sym, ap, subst, ◌∙◌, filter, max, append_assoc}
use Rattle.std.specs.List.{AllByRecursion, list_any}
use Rattle.std.proofs.lemmas.Bool.{false≢true, and_from, and_parts, or_cases, or_left, or_right}
use Rattle.std.proofs.lemmas.List.Elements.{Contains-append_right}
use Rattle.law_model.proofs.ModelLemmas.Members.{contains_first}
use Rattle.audit_flows.specs.Lines.{Recorded, Placed, same_endpoint, goes, is_at, is_of, is_request, transfer_of, begins_request, clock, silence, is_again, is_apart, newest_of, live, line, opened_by, asked_after, talk_in}
use Rattle.audit_flows.specs.{Endpoint, Place, Opens, Repeats, Talks, Beside, Transfer}
use Rattle.audit_flows.proofs.LinesLemmas.Endpoints.{is_same, same_itself}
use Rattle.audit_flows.proofs.LinesLemmas.Lines.{by_test}
use Rattle.audit_flows.specs.Transfers.{asks, at_client, beside, is_beside, is_client, is_nowhere, is_service, place_of, placed}
use Rattle.audit_flows.proofs.TransfersLemmas.Ends.{asked_as, asked_place, opened, again}
use Rattle.audit_spared.specs.Spared.Seen.{is_with}
use Rattle.audit_spared.specs.Spared.{AskersAreElsewhere, AreCaptures, Follows, IsNext, AreInOrder, asks_from, begins, comes_at, goes_on, goes_from}
use Rattle.audit_spared.proofs.SparedLemmas.Basics.{all_last}
use Rattle.audit_spared.proofs.SparedLemmas.Lists.{all_at, all_from, any_filter, one_passes}
use Rattle.audit_spared.proofs.SparedLemmas.Stands.{new, IsPlain, talks, Has}
use Rattle.audit_spared.proofs.SparedLemmas.Stands.IsPlain.{asks as asked}
use Rattle.audit_spared.proofs.SparedLemmas.Recordings.{IsQuiet, IsQuietAt, quiet_at, Standing, nothing, asks_not, clock_now, on_time, order_rest, plain_asks}
use Rattle.audit_spared.proofs.SparedLemmas.Owned.{AreOwn, IsOwn, place_below, transfer_below}
use Rattle.audit_spared.proofs.SparedLemmas.Clients.{AreAtClients, all_own, at_more, own}
use Rattle.audit_spared.proofs.SparedLemmas.Kept.{AllBefore, AreAside, At, IsGiven, ComesFromElsewhere, at_before, at_here, kept_at, all_kept, next_has, step}

-- At each client captures follow one another, such as may be there; who asks elsewhere speaks with no client.
-- But some may pass aside, with no other client.
pub record AreAll (lawful : Endpoint → List Recorded → Type 0) (clients : List Endpoint) (recorded : List Recorded) : Type 0 where
  pub busy : Endpoint → Recorded → Bool
  pub busy_with : (c : Endpoint) (d : Recorded) → busy c d ≡ true → is_with c d ≡ true
  pub asides : (c : Endpoint) → Contains clients c → AreAside c (busy c) recorded
  pub strangers : (c e : Endpoint) → Contains clients c → Contains clients e → AllByRecursion (λ d. busy c d ≡ false → is_with c d ≡ true → is_with e d ≡ true → c ≡ e) recorded
  pub captures : (c : Endpoint) → Contains clients c → (k : List Recorded) × AreCaptures (lawful c) c (filter (busy c) recorded) k
  pub others : AskersAreElsewhere clients recorded
  pub quiet : (c : Endpoint) → Contains clients c → IsQuiet (lawful c) c
  pub order : AreInOrder recorded

at_is : (e : Endpoint) (d : Recorded) (now : ℕ) (place : Place) (z : Transfer) → transfer_of place ≡ Some z → is_at e (new d now place) ≡ same_endpoint z.client e
at_is e d now (Opens y) z is = let this : y ≡ z = cc in ap (λ x. same_endpoint x.client e) this
at_is e d now (Repeats y) z is = let this : y ≡ z = cc in ap (λ x. same_endpoint x.client e) this
at_is e d now (Talks y) z is = let this : y ≡ z = cc in ap (λ x. same_endpoint x.client e) this
at_is e d now _ z is = absurd (cc)

-- what a capture has passed in the recording
any_captured : (lawful : List Recorded → Type 0) (c : Endpoint) (f : Recorded → Bool) (ds k : List Recorded) → AreCaptures lawful c ds k → list_any f k ≡ true → list_any f ds ≡ true
any_captured lawful c f [] k captures any = absurd (false≢true (ap (list_any f) (sym captures) ∙ any))
any_captured lawful c f (d ∷ ds) k captures any = by (λ k0 before. any_captured lawful c f ds k0 before) captures where
  by : ((k0 : List Recorded) → AreCaptures lawful c ds k0 → list_any f k0 ≡ true → list_any f ds ≡ true) → IsNext lawful c (AreCaptures lawful c ds) d k → list_any f (d ∷ ds) ≡ true
  by earlier (begins k0 before follows good is) = elim (or_cases (f d) false (subst (λ l. list_any f l ≡ true) is any)) [
    | inl this ↦ or_left (f d) (list_any f ds) this
    | inr none ↦ absurd (false≢true none)
  ]
  by earlier (goes_on e k0 before follows near good is) = elim (or_cases (f d) (list_any f (e ∷ k0)) (subst (λ l. list_any f l ≡ true) is any)) [
    | inl this ↦ or_left (f d) (list_any f ds) this
    | inr later ↦ or_right (f d) (list_any f ds) (earlier (e ∷ k0) before later)
  ]

request_beside : (d : Recorded) (now : ℕ) (place : Place) → is_request (new d now place) ≡ true → is_beside (new d now place) ≡ true → ⊥
request_beside d now (Beside x) request beside = false≢true request
request_beside d now _ request beside = false≢true beside

-- what asks is not beside
asked_beside : (older : List Placed) (now : ℕ) (d : Recorded) → is_beside (new d now (asked_place older now d)) ≡ true → ⊥
asked_beside older now d is = by (newest_of (λ p. not (is_apart p)) (live now (line d.source older))) refl where
  away : (place : Place) → asked_place older now d ≡ place → is_beside (new d now place) ≡ true
  away place at = subst (λ p. is_beside (new d now p) ≡ true) at is

  by : (found : Option Placed) → newest_of (λ p. not (is_apart p)) (live now (line d.source older)) ≡ found → ⊥
  by None none = false≢true (away (opened_by (length older) d) (rw none refl))
  by (Some p) found =
      let at : asked_place older now d ≡ asked_after (opened_by (length older) d) p.place (is_again p.datagram d) = rw found refl in
      elim (asked_as p.place (is_again p.datagram d) (length older) d) [
        | opened e ↦ false≢true (away (opened_by (length older) d) (at ∙ e))
        | again y e of ↦ false≢true (away (Repeats y) (at ∙ e))
      ]

-- what says a request and passed beside a server does not go to port 69
beside_port : (older : List Placed) (now : ℕ) (d : Recorded) → begins_request d.payload ≡ true → is_beside (new d now (place_of [] older now d)) ≡ true → (d.target.port == 69) ≡ false
beside_port older now d begins_it is_there = by_test (d.target.port == 69)
    (λ is.
    let named : is_service [] [] d.target.port ≡ true = or_left ((d.target.port == 69) || false) false (or_left (d.target.port == 69) false is) in
    let says : asks [] older now d ≡ true = and_from (begins_request d.payload)
    (is_service [] [] d.target.port || (not (is_client older now d.target) && (is_service [] older d.target.port || (d.is_spelled && not (is_some (talk_in d.source d.target (live now (line d.source older)))))))) begins_it
    (or_left (is_service [] [] d.target.port) (not (is_client older now d.target) && (is_service [] older d.target.port || (d.is_spelled && not (is_some (talk_in d.source d.target (live now (line d.source older))))))) named) in
    let place : place_of [] older now d ≡ asked_place older now d = ap (λ b. if b then asked_place older now d else if is_nowhere (at_client older now d) then beside [] older now d else at_client older now d) says in
    absurd (asked_beside older now d (subst (λ p. is_beside (new d now p) ≡ true) place is_there)))
    (λ off. off)

-- what is of a client's line is not beside
plain_beside : (c : Endpoint) (q : Placed) → IsPlain c q → is_beside q ≡ true → ⊥
plain_beside c q (asked x request at) beside = request_beside q.datagram q.moment q.place request beside
plain_beside c q (talks y at client) beside = false≢true (sym (ap (λ place. is_beside (new q.datagram q.moment place)) at) ∙ beside)

-- where nothing passes aside
pub with_aside : (c : Endpoint) (ds : List Recorded) → AreAside c (is_with c) ds
with_aside c [] = tt
with_aside c (d ∷ ds) = ((λ off. inl off), with_aside c ds)

pub with_strangers : (c e : Endpoint) (ds : List Recorded) → AllByRecursion (λ d. is_with c d ≡ false → is_with c d ≡ true → is_with e d ≡ true → c ≡ e) ds
with_strangers c e [] = tt
with_strangers c e (d ∷ ds) = ((λ off with also. absurd (false≢true (sym off ∙ with))), with_strangers c e ds)

module _ (lawful : Endpoint → List Recorded → Type 0) (clients : List Endpoint) (recorded : List Recorded) (g : AreAll lawful clients recorded) where
  -- ---- who has a line: the clients, and who asks elsewhere

  record AsksElsewhere (e : Endpoint) : Type 0 where
    request : Recorded
    there : Contains recorded request
    none : (c : Endpoint) → Contains clients c → is_with c request ≡ false
    begins_it : begins_request request.payload ≡ true
    source : e ≡ request.source

  abbrev Here : Endpoint → Type 0
  Here e = Contains clients e ⊎ AsksElsewhere e

  -- ---- captures

  captures_of : (c : Endpoint) → Contains clients c → (k : List Recorded) × At (lawful c) c (g.busy c) recorded k
  captures_of c is_client = g.captures c is_client

  before_them : (c : Endpoint) (is_client : Contains clients c) (newer ds k : List Recorded) → At (lawful c) c (g.busy c) (newer ++ ds) k → (k0 : List Recorded) × At (lawful c) c (g.busy c) ds k0
  before_them c is_client [] ds k captures = (k, captures)
  before_them c is_client (d ∷ newer) ds k captures =
      let (k0, before) = at_before (lawful c) c (g.busy c) Here recorded d (newer ++ ds) k captures in
      before_them c is_client newer ds k0 before

  captures_at : (c : Endpoint) → Contains clients c → (newer ds : List Recorded) → recorded ≡ newer ++ ds → (k : List Recorded) × At (lawful c) c (g.busy c) ds k
  captures_at c is_client newer ds is =
      let (k, captures) = captures_of c is_client in
      before_them c is_client newer ds k (subst (λ l. At (lawful c) c (g.busy c) l k) is captures)

  -- ---- no two clients speak with each other: the first word would be a request to the other's port, which is no service port

  abbrev AreOne : Endpoint → Endpoint → Recorded → Type 0
  AreOne c e d = is_with c d ≡ true → is_with e d ≡ true → c ≡ e

  answered_between : (c e : Endpoint) (d : Recorded) (ds : List Recorded) → d.target ≡ e → AllByRecursion (AreOne c e) ds → list_any (λ r. goes d.target c r && comes_at c r) ds ≡ true → c ≡ e
  answered_between c e d [] to one any = absurd (false≢true any)
  answered_between c e d (r ∷ ds) to one any = elim (or_cases (goes d.target c r && comes_at c r) (list_any (λ q. goes d.target c q && comes_at c q) ds) any) [
    | inl this ↦
        let ends = and_parts (same_endpoint r.source d.target) (same_endpoint r.target c) (and_parts (goes d.target c r) (comes_at c r) this).0 in
        one.0 (or_right (same_endpoint r.source c) (same_endpoint r.target c) ends.1)
        (or_left (same_endpoint r.source e) (same_endpoint r.target e) (subst (λ o. same_endpoint r.source o ≡ true) to ends.0))
    | inr later ↦ answered_between c e d ds to one.1 later
  ]

  next_quiet : (e : Endpoint) → Contains clients e → (d : Recorded) (ds k : List Recorded) → IsNext (lawful e) e (At (lawful e) e (g.busy e) ds) d k → IsQuietAt e d
  next_quiet e is_client d ds k (begins k0 before follows good is) = quiet_at (lawful e) e (g.quiet e is_client) d [] good
  next_quiet e is_client d ds k (goes_on r k0 before follows near good is) = quiet_at (lawful e) e (g.quiet e is_client) d (r ∷ k0) good

  sent_between : (c e : Endpoint) (d : Recorded) → IsQuietAt e d → (ds k : List Recorded) → IsNext (lawful c) c (At (lawful c) c (g.busy c) ds) d k → d.source ≡ c → d.target ≡ e → AllByRecursion (AreOne c e) ds → c ≡ e
  sent_between c e d quiet ds k next from to one = by next where
    sent : goes_from c d ≡ true
    sent = subst (λ o. same_endpoint o c ≡ true) (sym from) (same_itself c)

    no_service : (k0 : List Recorded) → Follows c k0 d → asks_from c d ≡ true → c ≡ e
    no_service k0 follows is = elim quiet [
      | inl port ↦ absurd (port (ap (λ (o : Endpoint). o.port) (sym to) ∙ follows.service is))
      | inr plain ↦ by_test (goes_from e d)
          (λ also. sym from ∙ is_same d.source e also)
          (λ off. absurd (false≢true (sym (plain off) ∙ (and_parts (goes_from c d) (begins_request d.payload) is).1)))
    ]

    by : IsNext (lawful c) c (At (lawful c) c (g.busy c) ds) d k → c ≡ e
    by (begins k0 before follows good is) = no_service [] follows (follows.first refl)
    by (goes_on r k0 before follows near good is) = by_test (begins_request d.payload)
        (λ asks_it. no_service (r ∷ k0) follows (and_from (goes_from c d) (begins_request d.payload) sent asks_it))
        (λ plain. answered_between c e d ds to one
        (any_filter (λ q. goes d.target c q && comes_at c q) (g.busy c) ds
        (any_captured (lawful c) c (λ q. goes d.target c q && comes_at c q) (filter (g.busy c) ds) (r ∷ k0) before (follows.known sent plain))))

  turned : (c e : Endpoint) (ds : List Recorded) → AllByRecursion (AreOne c e) ds → AllByRecursion (AreOne e c) ds
  turned c e [] one = tt
  turned c e (d ∷ ds) one = ((λ with_e with_c. sym (one.0 with_c with_e)), turned c e ds one.1)

  between_two : (c e : Endpoint) → Contains clients c → Contains clients e → (newer ds : List Recorded) → recorded ≡ newer ++ ds → AllByRecursion (AreOne c e) ds
  between_two c e one other newer [] is = tt
  between_two c e one other newer (d ∷ ds) is =
      let before = between_two c e one other (newer ++ d ∷ []) ds (is ∙ sym (append_assoc newer (d ∷ []) ds)) in (now_two before, before)
    where
      to_other : (a b : Endpoint) → Contains clients a → Contains clients b → AllByRecursion (AreOne a b) ds → d.source ≡ a → g.busy a d ≡ true → g.busy b d ≡ true → is_with b d ≡ true → a ≡ b
      to_other a b one_client other_client all from busy_a busy_b with_b = elim (or_cases (same_endpoint d.source b) (same_endpoint d.target b) with_b) [
        | inl source ↦ sym from ∙ is_same d.source b source
        | inr target ↦
            let (k, captures) = captures_at a one_client newer (d ∷ ds) is in
            let (kb, captures_b) = captures_at b other_client newer (d ∷ ds) is in
            let quiet = next_quiet b other_client d ds kb (at_here (lawful b) b (g.busy b) d ds kb busy_b captures_b) in
            sent_between a b d quiet ds k (at_here (lawful a) a (g.busy a) d ds k busy_a captures) from (is_same d.target b target) all
      ]

      stranger : (a b : Endpoint) → Contains clients a → Contains clients b → g.busy a d ≡ false → is_with a d ≡ true → is_with b d ≡ true → a ≡ b
      stranger a b one_client other_client off with_a with_b =
          (all_last (λ r. g.busy a r ≡ false → is_with a r ≡ true → is_with b r ≡ true → a ≡ b) newer (d ∷ ds)
          (subst (AllByRecursion (λ r. g.busy a r ≡ false → is_with a r ≡ true → is_with b r ≡ true → a ≡ b)) is (g.strangers a b one_client other_client))).0 off with_a with_b

      both_busy : AllByRecursion (AreOne c e) ds → g.busy c d ≡ true → g.busy e d ≡ true → AreOne c e d
      both_busy before busy_c busy_e with_c with_e = elim (or_cases (same_endpoint d.source c) (same_endpoint d.target c) with_c) [
        | inl source ↦ to_other c e one other before (is_same d.source c source) busy_c busy_e with_e
        | inr target ↦ elim (or_cases (same_endpoint d.source e) (same_endpoint d.target e) with_e) [
          | inl source ↦ sym (to_other e c other one (turned c e ds before) (is_same d.source e source) busy_e busy_c with_c)
          | inr too ↦ sym (is_same d.target c target) ∙ is_same d.target e too
        ]
      ]

      now_two : AllByRecursion (AreOne c e) ds → AreOne c e d
      now_two before with_c with_e = by_test (g.busy c d)
          (λ busy_c. by_test (g.busy e d)
          (λ busy_e. both_busy before busy_c busy_e with_c with_e)
          (λ off. sym (stranger e c other one off with_e with_c)))
          (λ off. stranger c e one other off with_c with_e)

  -- ---- what comes to a client comes from none who has a line

  no_asker : (c : Endpoint) → Contains clients c → (d : Recorded) → Contains recorded d → is_with c d ≡ true → AsksElsewhere d.source → ⊥
  no_asker c is_client d there with asker = false≢true (sym (g.others asker.request d asker.there there asker.none asker.begins_it c is_client with)
      ∙ or_left (same_endpoint d.source asker.request.source) (same_endpoint d.target asker.request.source) (subst (λ e. same_endpoint d.source e ≡ true) asker.source (same_itself d.source)))

  elsewhere : (c : Endpoint) → Contains clients c → ComesFromElsewhere (lawful c) c (g.busy c) Here recorded recorded
  elsewhere c is_client = all_from (λ d. is_with c d ≡ true → goes_from c d ≡ false → Here d.source → ⊥) recorded none where
    none : (d : Recorded) → Contains recorded d → is_with c d ≡ true → goes_from c d ≡ false → Here d.source → ⊥
    none d there with off here = elim here [
      | inl other ↦
          let same : c ≡ d.source = all_at (AreOne c d.source) recorded d (between_two c d.source is_client other [] recorded refl) there with
          (or_left (same_endpoint d.source d.source) (same_endpoint d.target d.source) (same_itself d.source)) in
          false≢true (sym off ∙ subst (λ e. same_endpoint d.source e ≡ true) (sym same) (same_itself d.source))
      | inr asker ↦ no_asker c is_client d there with asker
    ]

  in_order : (newer ds : List Recorded) → AreInOrder (newer ++ ds) → AreInOrder ds
  in_order [] ds order = order
  in_order (d ∷ newer) ds order = in_order newer ds (order_rest d (newer ++ ds) order)

  aside_last : (c : Endpoint) (newer ds : List Recorded) → AreAside c (g.busy c) (newer ++ ds) → AreAside c (g.busy c) ds
  aside_last c [] ds all = all
  aside_last c (d ∷ newer) ds all = aside_last c newer ds all.1

  -- what passes at a client aside says no request
  aside_plain : (c : Endpoint) → Contains clients c → (newer ds : List Recorded) (d : Recorded) → recorded ≡ newer ++ d ∷ ds → is_with c d ≡ true → g.busy c d ≡ false → begins_request d.payload ≡ false
  aside_plain c is_client newer ds d is with off = elim ((aside_last c newer (d ∷ ds) (subst (AreAside c (g.busy c)) is (g.asides c is_client))).0 off) [
    | inl out ↦ absurd (false≢true (sym out ∙ with))
    | inr lone ↦ lone.plain
  ]

  given : (c : Endpoint) (is_client : Contains clients c) (newer ds : List Recorded) → recorded ≡ newer ++ ds → IsGiven (lawful c) c (g.busy c) Here recorded ds
  given c is_client newer ds is = record {
    busy_with = g.busy_with c;
    asides = aside_last c newer ds (subst (AreAside c (g.busy c)) is (g.asides c is_client));
    order = in_order newer ds (subst AreInOrder is g.order);
    quiet = g.quiet c is_client;
    elsewhere = all_last (λ d. is_with c d ≡ true → goes_from c d ≡ false → Here d.source → ⊥) newer ds
        (subst (AllByRecursion (λ d. is_with c d ≡ true → goes_from c d ≡ false → Here d.source → ⊥)) is (elsewhere c is_client));
    newer = newer;
    is = is;
  }

  -- ---- what stands after each datagram, at all clients

  abbrev now : Recorded → List Recorded → ℕ
  now d ds = max d.time (clock (placed [] ds))

  record Global (ds : List Recorded) : Type 0 where
    at : AreAtClients Here (placed [] ds)
    stood : (c : Endpoint) → Contains clients c → (k : List Recorded) → At (lawful c) c (g.busy c) ds k → Standing c k (placed [] ds)

  asked_by : (d : Recorded) (newer ds : List Recorded) → recorded ≡ newer ++ d ∷ ds → Global ds → asks [] (placed [] ds) (now d ds) d ≡ true → Here d.source
  asked_by d newer ds is before says =
      let there : Contains recorded d = subst (λ l. Contains l d) (sym is) (Contains-append_right newer (d ∷ ds) d (contains_first d ds)) in
      elim (one_passes (λ c. is_with c d) clients) [
        | inl found ↦ by_test (g.busy found.0 d)
            (λ on.
            let (k, captures) = captures_at found.0 found.1 newer (d ∷ ds) is in
            inl (by found.0 found.1 k (at_here (lawful found.0) found.0 (g.busy found.0) d ds k on captures)))
            (λ off. absurd (false≢true (sym (plain_asks (placed [] ds) (now d ds) d (aside_plain found.0 found.1 newer ds d is found.2 off)) ∙ says)))
        | inr none ↦ by_test (begins_request d.payload)
            (λ begins_it. inr (record { request = d; there = there; none = none; begins_it = begins_it; source = refl }))
            (λ plain. absurd (false≢true (sym (plain_asks (placed [] ds) (now d ds) d plain) ∙ says)))
      ]
    where
      order : AreInOrder (d ∷ ds)
      order = in_order newer (d ∷ ds) (subst AreInOrder is g.order)

      found : (c : Endpoint) → Contains clients c → asks_from c d ≡ true → Contains clients d.source
      found c is_client from = subst (Contains clients) (sym (is_same d.source c (and_parts (goes_from c d) (begins_request d.payload) from).0)) is_client

      by : (c : Endpoint) → Contains clients c → (k : List Recorded) → IsNext (lawful c) c (At (lawful c) c (g.busy c) ds) d k → Contains clients d.source
      by c is_client k (begins k0 b follows good same) = found c is_client (follows.first refl)
      by c is_client k (goes_on e k0 b follows near good same) = by_test (asks_from c d)
          (λ from. found c is_client from)
          (λ off. absurd (false≢true (sym (asks_not (lawful c) c ds k0 e d follows (before.stood c is_client (e ∷ k0) b) (on_time ds (order_rest d ds order)) (quiet_at (lawful c) c (g.quiet c is_client) d (e ∷ k0) good) (now d ds)
          (subst (λ t. t ≤ e.time + silence) (sym (clock_now d ds order)) near) off) ∙ says)))

  global : (newer ds : List Recorded) → recorded ≡ newer ++ ds → Global ds
  global newer [] is = record { at = tt; stood = λ c is_client k captures. nothing refl captures }
  global newer (d ∷ ds) is =
      let before = global (newer ++ d ∷ []) ds (is ∙ sym (append_assoc newer (d ∷ []) ds)) in record {
        at = at_more Here (placed [] ds) (now d ds) d (λ says. asked_by d newer ds is before says) before.at;
        stood = λ c is_client k captures. step (lawful c) c (g.busy c) Here recorded d ds k (given c is_client newer (d ∷ ds) is)
            (record { at = before.at; stood = λ k0 at. before.stood c is_client k0 at }) captures;
      }

  all_before : (c : Endpoint) (is_client : Contains clients c) (newer ds : List Recorded) → recorded ≡ newer ++ ds → AllBefore (lawful c) c (g.busy c) Here recorded ds
  all_before c is_client newer [] is = tt
  all_before c is_client newer (d ∷ ds) is =
      let later = is ∙ sym (append_assoc newer (d ∷ []) ds) in
      let before = global (newer ++ d ∷ []) ds later in (
        record { at = before.at; stood = λ k0 at. before.stood c is_client k0 at },
        all_before c is_client (newer ++ d ∷ []) ds later,
      )

  -- ---- the clients ask at port 69

  abbrev IsAskedThere : Transfer → Type 0
  IsAskedThere x = Contains clients x.client → x.asked.port ≡ 69

  asked_there : (d : Recorded) (newer ds : List Recorded) → recorded ≡ newer ++ d ∷ ds → asks [] (placed [] ds) (now d ds) d ≡ true → Contains clients d.source → d.target.port ≡ 69
  asked_there d newer ds is says is_client = by_test (g.busy d.source d)
      (λ on. by k (at_here (lawful d.source) d.source (g.busy d.source) d ds k on captures))
      (λ off. plain (aside_plain d.source is_client newer ds d is with off))
    where
      with : is_with d.source d ≡ true
      with = or_left (same_endpoint d.source d.source) (same_endpoint d.target d.source) (same_itself d.source)

      captured : (k : List Recorded) × At (lawful d.source) d.source (g.busy d.source) (d ∷ ds) k
      captured = captures_at d.source is_client newer (d ∷ ds) is

      k : List Recorded
      k = captured.0

      captures : At (lawful d.source) d.source (g.busy d.source) (d ∷ ds) k
      captures = captured.1

      plain : begins_request d.payload ≡ false → d.target.port ≡ 69
      plain none = absurd (false≢true (sym (plain_asks (placed [] ds) (now d ds) d none) ∙ says))

      asked_it : (k0 : List Recorded) → Follows d.source k0 d → d.target.port ≡ 69
      asked_it k0 follows = by_test (begins_request d.payload)
          (λ begins_it. follows.service (and_from (goes_from d.source d) (begins_request d.payload) (same_itself d.source) begins_it))
          plain

      by : (k : List Recorded) → IsNext (lawful d.source) d.source (At (lawful d.source) d.source (g.busy d.source) ds) d k → d.target.port ≡ 69
      by k (begins k0 b follows good same) = asked_it [] follows
      by k (goes_on e k0 b follows near good same) = asked_it (e ∷ k0) follows

  all_asked_there : (newer ds : List Recorded) → recorded ≡ newer ++ ds → AreOwn IsAskedThere (placed [] ds)
  all_asked_there newer [] is = tt
  all_asked_there newer (d ∷ ds) is =
      let before = all_asked_there (newer ++ d ∷ []) ds (is ∙ sym (append_assoc newer (d ∷ []) ds)) in
      (place_below IsAskedThere [] (placed [] ds) (now d ds) d (λ says is_client. asked_there d newer ds is says is_client) before, before)

  pub asked_of : (newer older : List Placed) (p : Placed) → placed [] recorded ≡ newer ++ p ∷ older → (x : Transfer) → transfer_of p.place ≡ Some x → Contains clients x.client → x.asked.port ≡ 69
  asked_of newer older p are x at is_client =
      let owned = subst (AreOwn IsAskedThere) are (all_asked_there [] recorded refl) in
      transfer_below IsAskedThere p.place x (all_last (λ q. IsOwn IsAskedThere q.place) newer (p ∷ older) owned).0 at is_client

  pub own_of : (newer older : List Placed) (p : Placed) → placed [] recorded ≡ newer ++ p ∷ older → (x : Transfer) → transfer_of p.place ≡ Some x → own recorded x
  own_of newer older p are x at =
      let owned = subst (AreOwn (own recorded)) are (all_own recorded [] recorded refl) in
      transfer_below (own recorded) p.place x (all_last (λ q. IsOwn (own recorded) q.place) newer (p ∷ older) owned).0 at

  -- what passed beside a server was at no client, and goes to port 69 only if it says no request
  abbrev pub IsApart : Placed → Type 0
  IsApart q = is_beside q ≡ true → (begins_request q.datagram.payload ≡ true → (q.datagram.target.port == 69) ≡ false) × ((c : Endpoint) → Contains clients c → g.busy c q.datagram ≡ false)

  apart_one : (newer ds : List Recorded) (d : Recorded) → recorded ≡ newer ++ d ∷ ds → IsApart (new d (now d ds) (place_of [] (placed [] ds) (now d ds) d))
  apart_one newer ds d is is_there = (λ begins_it. beside_port (placed [] ds) (now d ds) d begins_it is_there, none) where
    before : Global ds
    before = global (newer ++ d ∷ []) ds (is ∙ sym (append_assoc newer (d ∷ []) ds))

    none : (c : Endpoint) → Contains clients c → g.busy c d ≡ false
    none c is_client = by_test (g.busy c d)
        (λ on.
        let (k, captures) = captures_at c is_client newer (d ∷ ds) is in
        let (kp, rest, x, has) = next_has (lawful c) c (g.busy c) Here recorded d ds k (given c is_client newer (d ∷ ds) is) (g.busy_with c d on)
        (record { at = before.at; stood = λ k0 at. before.stood c is_client k0 at }) (at_here (lawful c) c (g.busy c) d ds k on captures) in
        absurd (plain_beside c (new d (now d ds) (place_of [] (placed [] ds) (now d ds) d)) has.plain.0 is_there))
        (λ off. off)

  pub all_apart : (newer ds : List Recorded) → recorded ≡ newer ++ ds → AllByRecursion IsApart (placed [] ds)
  all_apart newer [] is = tt
  all_apart newer (d ∷ ds) is = (apart_one newer ds d is, all_apart (newer ++ d ∷ []) ds (is ∙ sym (append_assoc newer (d ∷ []) ds)))

  -- so what is kept of a transfer is so after each of the recording
  module _ (c : Endpoint) (Kept : ℕ → List Placed → Type 0) (none : (n : ℕ) → Kept n [])
      (other : (n : ℕ) (p : Placed) (older : List Placed) → is_of n p ≡ false → Kept n older → Kept n (p ∷ older))
      (one : (n : ℕ) (k : List Recorded) (older kp rest : List Placed) (x : Transfer) (d : Recorded) (now : ℕ) (place : Place)
      → is_with c d ≡ true → place ≡ place_of [] older now d → Has c k (new d now place ∷ older) (new d now place ∷ kp) rest x → lawful c k → is_of n (new d now place) ≡ true → Kept n older → Kept n (new d now place ∷ older)) where
    pub kept_of : Contains clients c → (newer older : List Placed) (p : Placed) → placed [] recorded ≡ newer ++ p ∷ older → (x : Transfer) → transfer_of p.place ≡ Some x → x.client ≡ c → Kept x.number (p ∷ older)
    kept_of is_client newer older p are x at is =
        let owned = own_of newer older p are x at in
        let (k, captures) = captures_of c is_client in
        kept_at (lawful c) c (g.busy c) Here recorded Kept none other one x owned is recorded k
        (given c is_client [] recorded refl) (all_before c is_client [] recorded refl) captures newer older p are

    pub kept_whole : Contains clients c → (newer older : List Placed) (p : Placed) → placed [] recorded ≡ newer ++ p ∷ older → (x : Transfer) → transfer_of p.place ≡ Some x → x.client ≡ c → Kept x.number (placed [] recorded)
    kept_whole is_client newer older p are x at is =
        let owned = own_of newer older p are x at in
        let (k, captures) = captures_of c is_client in
        all_kept (lawful c) c (g.busy c) Here recorded Kept none other one x owned is recorded k
        (given c is_client [] recorded refl) (all_before c is_client [] recorded refl) captures
