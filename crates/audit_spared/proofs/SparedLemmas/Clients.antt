-- A recording at several clients: each datagram is at one of them, and to the others' lines it is nothing.
use Rattle.std.proofs.Common.{◌≡◌, ◌≢◌, ◌⊎◌, ℕ, ◌+◌, true, false, List, [], ◌∷◌, ◌++◌, Option, Some, None, inl, inr, refl, sym, ap, subst, ◌∙◌, ◌==◌, length, max, ne_eqb, arith, length-append, append_assoc, if◌then◌else◌}
use Rattle.std.specs.List.{AllByRecursion, list_any}
use Rattle.std.proofs.lemmas.Bool.{false≢true, or_left, or_right, eq-eqb, eqb-true}
use Rattle.audit_flows.specs.Lines.{opening, Recorded, Placed, same_endpoint, is_of, is_at, live, line, clock}
use Rattle.audit_flows.specs.{Endpoint, Place, Opens, Repeats, Talks, Apart, Beside, Nowhere, Transfer}
use Rattle.audit_flows.specs.Transfers.{comes, asks, at_client, beside, is_nowhere, place_of, placed, served_at}
use Rattle.audit_spared.specs.Spared.Seen.{is_with}
use Rattle.audit_flows.proofs.LinesLemmas.Endpoints.{is_same, same_itself}
use Rattle.audit_flows.proofs.LinesLemmas.Lines.{by_test}
use Rattle.audit_flows.proofs.TransfersLemmas.AllLines.{line_elsewhere}
use Rattle.audit_flows.proofs.TransfersLemmas.Ends.{IsEnd, asked_place, beside_end, client_end, placed_where}
use Rattle.audit_flows.proofs.TransfersLemmas.Numbers.{length_placed}
use Rattle.audit_spared.proofs.FairLemmas.Thinned.{filter_dropped}
use Rattle.audit_spared.proofs.SparedLemmas.Basics.{doubted_more}
use Rattle.audit_spared.proofs.SparedLemmas.Talks.{view_first}
use Rattle.audit_spared.proofs.SparedLemmas.Stands.{new, AskedBefore, State, doubted, asking, waiting, misled, answered, reopened, taken, mixed, Opened, Has}
use Rattle.audit_spared.proofs.SparedLemmas.Owned.{AreOwn, IsOwn, place_below}
use Rattle.audit_spared.proofs.SparedLemmas.Recordings.{no_line}

-- ---- at whose client a datagram is

asked_only : (older : List Placed) (now : ℕ) (d : Recorded) (Q : Place → Type 0) → Q (beside [] older now d) → Q (at_client older now d) → asks [] older now d ≡ false → Q (place_of [] older now d)
asked_only older now d Q aside here off = subst Q (sym (ap (λ b. if b then asked_place older now d else if is_nowhere (at_client older now d) then beside [] older now d else at_client older now d) off))
    (by_test (is_nowhere (at_client older now d))
    (λ is. subst Q (sym (ap (λ b. if b then beside [] older now d else at_client older now d) is)) aside)
    (λ no. subst Q (sym (ap (λ b. if b then beside [] older now d else at_client older now d) no)) here))

NoOpening : Place → Type 0
NoOpening place = ((x : Transfer) → place ≡ Opens x → ⊥) × ((x : Transfer) → place ≡ Repeats x → ⊥)

-- what opens or repeats asks
pub has_asked : (older : List Placed) (now : ℕ) (d : Recorded) (x : Transfer) → (place_of [] older now d ≡ Opens x) ⊎ (place_of [] older now d ≡ Repeats x) → asks [] older now d ≡ true
unfolding NoOpening
has_asked older now d x is = by_test (asks [] older now d)
    (λ asked. asked)
    (λ off. absurd (by is (asked_only older now d NoOpening
    (let e = beside_end older now d (served_at [] older now d.source) (served_at [] older now d.target) in (e.opens, e.repeats)) (let e = client_end older now d in (e.opens, e.repeats)) off)))
  where
    by : (place_of [] older now d ≡ Opens x) ⊎ (place_of [] older now d ≡ Repeats x) → NoOpening (place_of [] older now d) → ⊥
    by is none = elim is [ inl opens ↦ none.0 x opens | inr repeats ↦ none.1 x repeats ]

-- it is at one of its ends, which asks by it or has a line
pub data IsAt (older : List Placed) (now : ℕ) (d : Recorded) (e : Endpoint) : Type 0 where
  asks_here : e ≡ d.source → asks [] older now d ≡ true → IsAt older now d e
  has_line : (e ≡ d.source) ⊎ (e ≡ d.target) → (line e older ≡ [] → ⊥) → IsAt older now d e

pub at_which : (older : List Placed) (now : ℕ) (d : Recorded) (e : Endpoint) → is_at e (new d now (place_of [] older now d)) ≡ true → IsAt older now d e
at_which older now d e is = by (place_of [] older now d) refl is where
  ended : (c : Endpoint) → IsEnd older now d c → same_endpoint c e ≡ true → IsAt older now d e
  ended c (which, some) same =
      let there : c ≡ e = is_same c e same in
      has_line (subst (λ o. (o ≡ d.source) ⊎ (o ≡ d.target)) there which) (λ none. subst (λ o. live now (line o older) ≢ []) there some (ap (live now) none))

  by : (place : Place) → place_of [] older now d ≡ place → is_at e (new d now place) ≡ true → IsAt older now d e
  by (Opens x) here at = asks_here (sym (is_same x.client e at) ∙ ((placed_where [] older now d).opens x here).0) (has_asked older now d x (inl here))
  by (Repeats x) here at = asks_here (sym (is_same x.client e at) ∙ ((placed_where [] older now d).repeats x here).0) (has_asked older now d x (inr here))
  by (Talks x) here at = ended x.client ((placed_where [] older now d).talks x here) at
  by (Apart c) here at = ended c ((placed_where [] older now d).apart c here) at
  by (Beside x) here at = absurd (false≢true at)
  by Nowhere here at = absurd (false≢true at)

-- where it is at a client, that asks by it or its line goes on
pub at_lived : (older : List Placed) (now : ℕ) (d : Recorded) (e : Endpoint) → is_at e (new d now (place_of [] older now d)) ≡ true → (asks [] older now d ≡ true) ⊎ (live now (line e older) ≢ [])
at_lived older now d e is = by (place_of [] older now d) refl is where
  ended : (c : Endpoint) → IsEnd older now d c → same_endpoint c e ≡ true → (asks [] older now d ≡ true) ⊎ (live now (line e older) ≢ [])
  ended c (which, some) same = inr (subst (λ o. live now (line o older) ≢ []) (is_same c e same) some)

  by : (place : Place) → place_of [] older now d ≡ place → is_at e (new d now place) ≡ true → (asks [] older now d ≡ true) ⊎ (live now (line e older) ≢ [])
  by (Opens x) here at = inl (has_asked older now d x (inl here))
  by (Repeats x) here at = inl (has_asked older now d x (inr here))
  by (Talks x) here at = ended x.client ((placed_where [] older now d).talks x here) at
  by (Apart c) here at = ended c ((placed_where [] older now d).apart c here) at
  by (Beside x) here at = absurd (false≢true at)
  by Nowhere here at = absurd (false≢true at)

end_with : (d : Recorded) (e : Endpoint) → (e ≡ d.source) ⊎ (e ≡ d.target) → is_with e d ≡ true
end_with d e which = elim which [
  | inl source ↦ or_left (same_endpoint d.source e) (same_endpoint d.target e) (subst (λ o. same_endpoint o e ≡ true) source (same_itself e))
  | inr target ↦ or_right (same_endpoint d.source e) (same_endpoint d.target e) (subst (λ o. same_endpoint o e ≡ true) target (same_itself e))
]

is_end : (older : List Placed) (now : ℕ) (d : Recorded) (e : Endpoint) → IsAt older now d e → is_with e d ≡ true
is_end older now d e (asks_here source says) = end_with d e (inl source)
is_end older now d e (has_line which some) = end_with d e which

-- at a client that is none of its ends it is not
pub not_at : (older : List Placed) (now : ℕ) (d : Recorded) (c : Endpoint) → is_with c d ≡ false → is_at c (new d now (place_of [] older now d)) ≡ false
not_at older now d c off = by_test (is_at c (new d now (place_of [] older now d))) (λ is. absurd (false≢true (sym off ∙ is_end older now d c (at_which older now d c is)))) (λ none. none)

-- ---- all are at endpoints of a kind

module _ (Here : Endpoint → Type 0) where
  abbrev pub AreAtClients : List Placed → Type 0
  AreAtClients ps = AllByRecursion (λ q. (e : Endpoint) → is_at e q ≡ true → Here e) ps

  line_client : (e : Endpoint) (older : List Placed) → AreAtClients older → (line e older ≡ [] → ⊥) → Here e
  line_client e [] all some = absurd (some refl)
  line_client e (q ∷ older) all some = by_test (is_at e q)
      (λ is. all.0 e is)
      (λ off. line_client e older all.1 (λ none. some (line_elsewhere e q older off ∙ none)))

  -- where whoever asks is of it
  pub at_more : (older : List Placed) (now : ℕ) (d : Recorded) → (asks [] older now d ≡ true → Here d.source) → AreAtClients older → AreAtClients (new d now (place_of [] older now d) ∷ older)
  at_more older now d asker before = (λ e is. by e (at_which older now d e is), before) where
    by : (e : Endpoint) → IsAt older now d e → Here e
    by e (asks_here source says) = subst Here (sym source) (asker says)
    by e (has_line which some) = line_client e older before some

  none_at : (o : Endpoint) (older : List Placed) → AreAtClients older → (Here o → ⊥) → AllByRecursion (λ q. is_at o q ≡ false) older
  none_at o [] all none = tt
  none_at o (q ∷ older) all none = (by_test (is_at o q) (λ is. absurd (none (all.0 o is))) (λ off. off), none_at o older all.1 none)

  -- so what is not has no line
  pub alone : (o : Endpoint) (older : List Placed) → AreAtClients older → (Here o → ⊥) → line o older ≡ []
  alone o older at none = no_line o older (none_at o older at none)

-- ---- a transfer's number tells its client

pub number_source : List Recorded → ℕ → Option Endpoint
number_source [] n = None
number_source (d ∷ ds) n = if length ds == n then Some d.source else number_source ds n

source_at : (newer ds : List Recorded) (d : Recorded) → number_source (newer ++ d ∷ ds) (length ds) ≡ Some d.source
unfolding number_source
source_at [] ds d = ap (λ b. if b then Some d.source else number_source ds (length ds)) (eq-eqb (length ds) (length ds) refl)
source_at (e ∷ newer) ds d =
    let more : length (newer ++ d ∷ ds) ≡ length newer + length (d ∷ ds) = length-append newer (d ∷ ds) in
    let differs : (length (newer ++ d ∷ ds) == length ds) ≡ false = ne_eqb (length (newer ++ d ∷ ds)) (length ds) (λ same. absurd (omega arith)) in
    ap (λ b. if b then Some e.source else number_source (newer ++ d ∷ ds) (length ds)) differs ∙ source_at newer ds d

module _ (whole : List Recorded) where
  abbrev pub own : Transfer → Type 0
  own x = number_source whole x.number ≡ Some x.client

  pub all_own : (newer ds : List Recorded) → whole ≡ newer ++ ds → AreOwn own (placed [] ds)
  all_own newer [] is = tt
  all_own newer (d ∷ ds) is =
      let before = all_own (newer ++ d ∷ []) ds (is ∙ sym (append_assoc newer (d ∷ []) ds)) in
      let opens : own (opening (length (placed [] ds)) d) = ap (number_source whole) (length_placed [] ds) ∙ ap (λ l. number_source l (length ds)) is ∙ source_at newer ds d in
      (place_below own [] (placed [] ds) (max d.time (clock (placed [] ds))) d (λ says. opens) before, before)

  one_client : (x z : Transfer) → own x → own z → (z.number == x.number) ≡ true → z.client ≡ x.client
  one_client x z of also same =
      let both : Some z.client ≡ Some x.client = sym also ∙ ap (number_source whole) (eqb-true z.number x.number same) ∙ of in cc

  -- what is not at the transfer's client is not of it
  pub not_of : (x : Transfer) (d : Recorded) (now : ℕ) (place : Place) → own x → IsOwn own place → is_at x.client (new d now place) ≡ false → is_of x.number (new d now place) ≡ false
  not_of x d now place of also away = by_test (is_of x.number (new d now place)) (λ is. absurd (by place also away is)) (λ off. off) where
    clash : (z : Transfer) → own z → same_endpoint z.client x.client ≡ false → (z.number == x.number) ≡ true → ⊥
    clash z z_own off is = false≢true (sym off ∙ subst (λ e. same_endpoint e x.client ≡ true) (sym (one_client x z of z_own is)) (same_itself x.client))

    by : (place : Place) → IsOwn own place → is_at x.client (new d now place) ≡ false → is_of x.number (new d now place) ≡ true → ⊥
    by (Opens z) z_own off is = clash z z_own off is
    by (Repeats z) z_own off is = clash z z_own off is
    by (Talks z) z_own off is = clash z z_own off is
    by (Apart c) z_own off is = false≢true is
    by (Beside z) z_own off is = false≢true is
    by Nowhere z_own off is = false≢true is

-- ---- a datagram of another client's

asked_other : (older kp : List Placed) (n : ℕ) (p : Placed) → is_of n p ≡ false → AskedBefore older kp n → AskedBefore (p ∷ older) kp n
asked_other older kp n p off asked = record { r = asked.r; before = asked.before; view = filter_dropped (is_of n) p older off ∙ asked.view; repeated = asked.repeated }

abbrev opened_other : (c : Endpoint) (older kp : List Placed) (n : ℕ) (p : Placed) → Opened c older kp n → Opened c (p ∷ older) kp n
opened_other c older kp n p a = record {
  opener = a.opener;
  view = view_first n p a.opener older a.view;
  newer = a.newer;
  early = a.early;
  split = a.split;
  from = a.from;
  silent = a.silent;
  others = a.others;
}

state_other : (c : Endpoint) (k : List Recorded) (older kp rest : List Placed) (x : Transfer) (p : Placed) → is_of x.number p ≡ false → State c k older kp rest x → State c k (p ∷ older) kp rest x
unfolding asked_other
state_other c k older kp rest x p off (doubted is) = doubted (doubted_more x.number p older is)
state_other c k older kp rest x p off (asking a) = asking (record { none_came = a.none_came; asked = asked_other older kp x.number p off a.asked; own = a.own; others = a.others })
state_other c k older kp rest x p off (waiting a) = waiting (record {
  strayed = a.strayed;
  ends = a.ends;
  core = record {
    asked = asked_other older kp x.number p off a.core.asked;
    bottom = a.core.bottom;
    requests = a.core.requests;
    others = a.core.others;
    silent = a.core.silent;
    heard = a.core.heard;
  };
})
state_other c k older kp rest x p off (misled a) = misled (record {
  strayed = a.strayed;
  ends = a.ends;
  by = a.by;
  answered = a.answered;
  opened = opened_other c older kp x.number p a.opened;
  first = a.first;
  heard = a.heard;
})
state_other c k older kp rest x p off (answered a) = answered (record {
  came = a.came;
  asked = asked_other older kp x.number p off a.asked;
  bottom = a.bottom;
  by = a.by;
  answered = a.answered;
  ends = a.ends;
  talked = a.talked;
  requests = a.requests;
  talks = a.talks;
  others = a.others;
  server = a.server;
  is_talked = a.is_talked;
  serves = a.serves;
  opened = opened_other c older kp x.number p a.opened;
  first = a.first;
  by_server = a.by_server;
})
state_other c k older kp rest x p off (reopened a) = reopened (record {
  untimely = a.untimely;
  went_on = a.went_on;
  asked = asked_other older kp x.number p off a.asked;
  there = a.there;
  asks_it = a.asks_it;
  same = a.same;
  top_same = a.top_same;
  others = a.others;
})
state_other c k older kp rest x p off (taken a) = taken (record {
  untimely = a.untimely;
  ends = a.ends;
  asked = asked_other older kp x.number p off a.asked;
  came = or_right (comes x.number p) (list_any (comes x.number) older) a.came;
  there = a.there;
  asks_it = a.asks_it;
  went = a.went;
  opened = a.opened;
})
state_other c k older kp rest x p off (mixed a) = mixed a

pub has_other : (c : Endpoint) (k : List Recorded) (older kp rest : List Placed) (x : Transfer) (p : Placed) → is_at c p ≡ false → is_of x.number p ≡ false → Has c k older kp rest x → Has c k (p ∷ older) kp rest x
has_other c k older kp rest x p away off has = record {
  whole = line_elsewhere c p older away ∙ has.whole;
  some = has.some;
  are = has.are;
  known = has.known;
  plain = has.plain;
  latest = has.latest;
  client = has.client;
  top = has.top;
  more = has.more;
  pure = has.pure;
  alike = has.alike;
  terms = has.terms;
  state = state_other c k older kp rest x p off has.state;
}
