-- Where a datagram of a client's line belongs, by what was found in the line.
use Rattle.std.proofs.Common.{◌≡◌, ℕ, Bool, true, false, List, [], ◌∷◌, Some, None, inl, inr, refl, sym, ap, subst, ◌∙◌, ◌==◌, ◌&&◌, not, map, option_map, if◌then◌else◌}
use Rattle.std.specs.List.{list_any, AllByRecursion}
use Rattle.std.proofs.lemmas.Bool.{false≢true, or_cases, or_left, or_right, and_from, and_parts}
use Rattle.audit_flows.specs.Lines.{Recorded, Placed, same_endpoint, goes, is_between, other_of, is_of, is_request, newest_of, talked_of, talk_in, last_was_ack_0, latest_in, answered_in, is_known_host, place_talked, place_at, begins_request}
use Rattle.audit_flows.specs.{Endpoint, Place, Apart, Talks, Transfer}
use Rattle.audit_flows.specs.Lines.Recording.{is_answer, is_data_1}
use Rattle.audit_flows.proofs.LinesLemmas.Endpoints.{is_same}
use Rattle.audit_flows.proofs.LinesLemmas.Lines.{by_test}
use Rattle.audit_flows.proofs.TransfersLemmas.Ends.{spoken}
use Rattle.audit_spared.specs.Spared.{asks_from, comes_at, goes_from}
use Rattle.audit_spared.proofs.SparedLemmas.Stands.{IsKnown}

-- ---- places

pub of_talk : (n : ℕ) (q : Placed) (y : Transfer) → q.place ≡ Talks y → is_of n q ≡ (y.number == n)
of_talk n q y is = ap (λ place. is_of n (record { datagram = q.datagram; moment = q.moment; place = place })) is

pub no_request_talks : (q : Placed) (y : Transfer) → q.place ≡ Talks y → is_request q ≡ false
no_request_talks q y is = ap (λ place. is_request (record { datagram = q.datagram; moment = q.moment; place = place })) is

pub place_some : (c o : Endpoint) (ps : List Placed) (d : Recorded) (x : Transfer) → latest_in ps ≡ Some x
    → place_at c o ps d ≡ place_talked c o x (answered_in x ps) d (talk_in c o ps)
place_some c o ps d x latest = rw latest refl

pub talk_found : (c o : Endpoint) (ps : List Placed) (q : Placed) → newest_of (spoken c o) ps ≡ Some q
    → talk_in c o ps ≡ Some (record { transfer = talked_of q.place; acked_0 = last_was_ack_0 c o ps })
talk_found c o ps q found = ap (option_map (λ p. record { transfer = talked_of p.place; acked_0 = last_was_ack_0 c o ps })) found

pub talk_none : (c o : Endpoint) (ps : List Placed) → newest_of (spoken c o) ps ≡ None → talk_in c o ps ≡ None
talk_none c o ps none = ap (option_map (λ p. record { transfer = talked_of p.place; acked_0 = last_was_ack_0 c o ps })) none

pub place_new : (c o : Endpoint) (ps : List Placed) (d : Recorded) (x : Transfer) → latest_in ps ≡ Some x → newest_of (spoken c o) ps ≡ None → goes_from c d ≡ false
    → place_at c o ps d ≡ Talks x
place_new c o ps d x latest none off = place_some c o ps d x latest
    ∙ ap (place_talked c o x (answered_in x ps) d) (talk_none c o ps none)
    ∙ ap (λ b. if b && not (is_known_host x (answered_in x ps) o) then Apart c else Talks x) off

talked_old : (c o : Endpoint) (x y : Transfer) (a : Endpoint) (d : Recorded) (place : Place) (acked : Bool) → place ≡ Talks y
    → place_talked c o x (Some a) d (Some (record { transfer = talked_of place; acked_0 = acked })) ≡ Talks y
talked_old c o x y a d place acked is = ap (λ p. place_talked c o x (Some a) d (Some (record { transfer = talked_of p; acked_0 = acked }))) is

pub place_old : (c o : Endpoint) (ps : List Placed) (d : Recorded) (x y : Transfer) (a : Endpoint) (q : Placed) → latest_in ps ≡ Some x → newest_of (spoken c o) ps ≡ Some q → q.place ≡ Talks y
    → answered_in x ps ≡ Some a → place_at c o ps d ≡ Talks y
place_old c o ps d x y a q latest found is answered = place_some c o ps d x latest
    ∙ ap (place_talked c o x (answered_in x ps) d) (talk_found c o ps q found)
    ∙ ap (λ b. place_talked c o x b d (Some (record { transfer = talked_of q.place; acked_0 = last_was_ack_0 c o ps }))) answered
    ∙ talked_old c o x y a d q.place (last_was_ack_0 c o ps) is

-- where nobody has answered
pub place_unanswered : (c o : Endpoint) (ps : List Placed) (d : Recorded) (x y : Transfer) (q : Placed) → latest_in ps ≡ Some x → newest_of (spoken c o) ps ≡ Some q → q.place ≡ Talks y
    → answered_in x ps ≡ None
    → place_at c o ps d ≡ (if (goes o c d && is_answer d.payload) && not (is_data_1 d.payload && last_was_ack_0 c o ps) then Talks x else Talks y)
place_unanswered c o ps d x y q latest found is answered = place_some c o ps d x latest
    ∙ ap (place_talked c o x (answered_in x ps) d) (talk_found c o ps q found)
    ∙ ap (λ b. place_talked c o x b d (Some (record { transfer = talked_of q.place; acked_0 = last_was_ack_0 c o ps }))) answered
    ∙ ap (λ p. place_talked c o x None d (Some (record { transfer = talked_of p; acked_0 = last_was_ack_0 c o ps }))) is

-- ---- with whom the client talks

pub from_none : (c : Endpoint) (d : Recorded) → comes_at c d ≡ true → goes_from c d ≡ false
from_none c d comes = by_test (goes_from c d) (λ is. absurd (false≢true (sym (ap not is) ∙ comes))) (λ off. off)

pub asks_none : (c : Endpoint) (d : Recorded) → goes_from c d ≡ false → asks_from c d ≡ false
asks_none c d off = ap (λ b. b && begins_request d.payload) off

pub spoken_by : (c o : Endpoint) (q : Placed) → IsKnown c q → comes_at c q.datagram ≡ true → goes o c q.datagram ≡ true → spoken c o q ≡ true
spoken_by c o q known comes goes_there = and_from (not (is_request q)) (is_between c o q.datagram)
    (ap not (known.kind ∙ asks_none c q.datagram (from_none c q.datagram comes)))
    (or_right (goes c o q.datagram) (goes o c q.datagram) goes_there)

pub heard_before : (c o : Endpoint) (ps : List Placed) → AllByRecursion (IsKnown c) ps → list_any (λ e. goes o c e && comes_at c e) (map (λ p. p.datagram) ps) ≡ true → list_any (spoken c o) ps ≡ true
heard_before c o [] known any = absurd (false≢true any)
heard_before c o (q ∷ ps) known any = elim (or_cases (goes o c q.datagram && comes_at c q.datagram) (list_any (λ e. goes o c e && comes_at c e) (map (λ p. p.datagram) ps)) any) [
  | inl is ↦ let parts = and_parts (goes o c q.datagram) (comes_at c q.datagram) is in or_left (spoken c o q) (list_any (spoken c o) ps) (spoken_by c o q known.0 parts.1 parts.0)
  | inr later ↦ or_right (spoken c o q) (list_any (spoken c o) ps) (heard_before c o ps known.1 later)
]

pub spoken_other : (c o : Endpoint) (q : Placed) → IsKnown c q → is_request q ≡ false → same_endpoint (other_of c q.datagram) o ≡ true → spoken c o q ≡ true
spoken_other c o q known plain same = and_from (not (is_request q)) (is_between c o q.datagram) (ap not plain)
    (subst (λ e. is_between c e q.datagram ≡ true) (is_same (other_of c q.datagram) o same) known.here)

other_goes : (c o : Endpoint) (d : Recorded) → goes_from c d ≡ true → is_between c o d ≡ true → other_of c d ≡ o
other_goes c o d from between =
    let other : other_of c d ≡ d.target = ap (λ b. if b then d.target else d.source) from in
    elim (or_cases (goes c o d) (goes o c d) between) [
      | inl sent ↦ other ∙ is_same d.target o (and_parts (same_endpoint d.source c) (same_endpoint d.target o) sent).1
      | inr came ↦ other ∙ is_same d.target c (and_parts (same_endpoint d.source o) (same_endpoint d.target c) came).1 ∙ sym (is_same d.source c from)
          ∙ is_same d.source o (and_parts (same_endpoint d.source o) (same_endpoint d.target c) came).0
    ]

other_comes : (c o : Endpoint) (d : Recorded) → goes_from c d ≡ false → is_between c o d ≡ true → other_of c d ≡ o
other_comes c o d off between =
    let other : other_of c d ≡ d.source = ap (λ b. if b then d.target else d.source) off in
    elim (or_cases (goes c o d) (goes o c d) between) [
      | inl sent ↦ absurd (false≢true (sym off ∙ (and_parts (same_endpoint d.source c) (same_endpoint d.target o) sent).0))
      | inr came ↦ other ∙ is_same d.source o (and_parts (same_endpoint d.source o) (same_endpoint d.target c) came).0
    ]

pub other_is : (c o : Endpoint) (d : Recorded) → is_between c o d ≡ true → other_of c d ≡ o
other_is c o d between = by_test (goes_from c d) (λ from. other_goes c o d from between) (λ off. other_comes c o d off between)

-- what comes to the client is sent to it
pub comes_to_it : (c : Endpoint) (d : Recorded) → goes_from c d ≡ false → is_between c (other_of c d) d ≡ true → goes (other_of c d) c d ≡ true
comes_to_it c d off between = elim (or_cases (goes c (other_of c d) d) (goes (other_of c d) c d) between) [
  | inl sent ↦ absurd (false≢true (sym off ∙ (and_parts (same_endpoint d.source c) (same_endpoint d.target (other_of c d)) sent).0))
  | inr came ↦ came
]
