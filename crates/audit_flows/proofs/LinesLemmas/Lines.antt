-- A line with one datagram more, which is no request.
use Rattle.std.proofs.Common.{◌≡◌, Bool, true, false, List, [], ◌∷◌, Option, Some, None, cond, inl, inr, refl, sym, ap, subst, ◌∙◌, ◌&&◌, ◌||◌, not, option_map, if◌then◌else◌}
use Rattle.std.proofs.lemmas.Bool.{false≢true, and_parts, or_cases}
use Rattle.law_model.specs.Rules.{first_of, or_this}
use Rattle.audit_flows.specs.Lines.{Recorded, same_endpoint, is_ack_0, goes, is_between, Placed, opens, is_request, newest_of, reach, answers, answered_in, talked_of, talk_in, last_was_ack_0, seen_of, talk_after, acked_0_in}
use Rattle.audit_flows.specs.declared.lines.endpoint.Endpoint.{Endpoint}
use Rattle.audit_flows.specs.declared.lines.place.Transfer.{Transfer}
use Rattle.audit_flows.proofs.LinesLemmas.Endpoints.{is_same, same_itself}

pub by_test : {P : Type 0} (b : Bool) → (b ≡ true → P) → (b ≡ false → P) → P
by_test true if_true if_false = if_true refl
by_test false if_true if_false = if_false refl

-- ---- who answered first

pub map_or : {X Y : Type 0} (f : X → Y) (o : Option X) (b : Bool) (x : X) → option_map f (or_this o b x) ≡ or_this (option_map f o) b (f x)
map_or f None true x = refl
map_or f _ _ x = refl

pub answered_more : (x : Transfer) (p : Placed) (line : List Placed) → opens p ≡ false → answered_in x (p ∷ line) ≡ or_this (answered_in x line) (answers x p) p.datagram.source
answered_more x p line shut = rw shut (map_or (λ q. q.datagram.source) (first_of (answers x) (reach line)) (answers x p) p)

-- ---- with whom the client talks

abbrev talks_with : Endpoint → Endpoint → Placed → Bool
talks_with c o p = not (is_request p) && is_between c o p.datagram

abbrev sends_to : Endpoint → Endpoint → Placed → Bool
sends_to c o p = not (is_request p) && goes c o p.datagram

no_part : (r g h : Bool) → (r && (g || h)) ≡ false → (r && g) ≡ false
no_part true true h e = absurd (false≢true (sym e))
no_part true false h e = refl
no_part false g h e = refl

none_sent : (c o : Endpoint) (line : List Placed) → newest_of (talks_with c o) line ≡ None → newest_of (sends_to c o) line ≡ None
none_sent c o [] none = refl
none_sent c o (p ∷ line) none = by_test (talks_with c o p)
    (λ is. let both : Some p ≡ None = sym (ap (λ b. if b then Some p else newest_of (talks_with c o) line) is) ∙ none in absurd (cc))
    (λ off.
    let rest : newest_of (talks_with c o) line ≡ None = sym (ap (λ b. if b then Some p else newest_of (talks_with c o) line) off) ∙ none in
    ap (λ b. if b then Some p else newest_of (sends_to c o) line) (no_part (not (is_request p)) (goes c o p.datagram) (goes o c p.datagram) off) ∙ none_sent c o line rest)

acked_none : (c o : Endpoint) (line : List Placed) → newest_of (talks_with c o) line ≡ None → last_was_ack_0 c o line ≡ false
acked_none c o line none = rw (none_sent c o line none) refl

-- the last word to it is kept with the talk
pub acked_kept : (c o : Endpoint) (line : List Placed) → last_was_ack_0 c o line ≡ acked_0_in (talk_in c o line)
acked_kept c o line = by (newest_of (talks_with c o) line) refl where
  by : (found : Option Placed) → newest_of (talks_with c o) line ≡ found → last_was_ack_0 c o line ≡ acked_0_in (talk_in c o line)
  by None is = acked_none c o line is ∙ sym (ap (λ f. acked_0_in (option_map (λ p. record { transfer = talked_of p.place; acked_0 = last_was_ack_0 c o line }) f)) is)
  by (Some p) is = sym (ap (λ f. acked_0_in (option_map (λ p. record { transfer = talked_of p.place; acked_0 = last_was_ack_0 c o line }) f)) is)

-- ---- what is between two is between no others

other_goes : (c o q : Endpoint) (d : Recorded) → is_between c o d ≡ true → same_endpoint o q ≡ false → goes c q d ≡ true → o ≡ q
other_goes c o q d between other this =
    let to = and_parts (same_endpoint d.source c) (same_endpoint d.target q) this in
    let target = is_same d.target q to.1 in
    let source = is_same d.source c to.0 in
    elim (or_cases (goes c o d) (goes o c d) between) [
      | inl sent ↦ sym (is_same d.target o (and_parts _ _ sent).1) ∙ target
      | inr came ↦ sym (is_same d.source o (and_parts _ _ came).0) ∙ source ∙ sym (is_same d.target c (and_parts _ _ came).1) ∙ target
    ]

not_goes : (c o q : Endpoint) (d : Recorded) → is_between c o d ≡ true → same_endpoint o q ≡ false → goes c q d ≡ false
not_goes c o q d between other = by_test (goes c q d)
    (λ this. absurd (false≢true (sym other ∙ subst (λ e. same_endpoint o e ≡ true) (other_goes c o q d between other this) (same_itself o))))
    (λ off. off)

came_from : (c o q : Endpoint) (d : Recorded) → is_between c o d ≡ true → goes q c d ≡ true → o ≡ q
came_from c o q d between this =
    let to = and_parts (same_endpoint d.source q) (same_endpoint d.target c) this in
    let target = is_same d.target c to.1 in
    let source = is_same d.source q to.0 in
    elim (or_cases (goes c o d) (goes o c d) between) [
      | inl sent ↦ sym (is_same d.target o (and_parts _ _ sent).1) ∙ target ∙ sym (is_same d.source c (and_parts _ _ sent).0) ∙ source
      | inr came ↦ sym (is_same d.source o (and_parts _ _ came).0) ∙ source
    ]

not_comes : (c o q : Endpoint) (d : Recorded) → is_between c o d ≡ true → same_endpoint o q ≡ false → goes q c d ≡ false
not_comes c o q d between other = by_test (goes q c d)
    (λ this. absurd (false≢true (sym other ∙ subst (λ e. same_endpoint o e ≡ true) (came_from c o q d between this) (same_itself o))))
    (λ off. off)

pub not_between : (c o q : Endpoint) (d : Recorded) → is_between c o d ≡ true → same_endpoint o q ≡ false → is_between c q d ≡ false
not_between c o q d between other = rw (not_goes c o q d between other) (not_comes c o q d between other)

-- ---- the talks after it

acked_more : (c o : Endpoint) (p : Placed) (line : List Placed) → is_request p ≡ false
    → last_was_ack_0 c o (p ∷ line) ≡ (if goes c o p.datagram then is_ack_0 p.datagram.payload else last_was_ack_0 c o line)
acked_more c o p line plain = rw plain (by_test (goes c o p.datagram)
    (λ is. rw is refl)
    (λ off. rw off refl))

talk_here : (c o : Endpoint) (p : Placed) (line : List Placed) → is_request p ≡ false → is_between c o p.datagram ≡ true
    → talk_in c o (p ∷ line) ≡ Some (talk_after c o (talked_of p.place) (seen_of p.datagram) (talk_in c o line))
talk_here c o p line plain between =
    let found : newest_of (talks_with c o) (p ∷ line) ≡ Some p = rw plain (rw between refl) in
    ap (λ f. option_map (λ q. record { transfer = talked_of q.place; acked_0 = last_was_ack_0 c o (p ∷ line) }) f) found
    ∙ ap (λ a. Some (record { transfer = talked_of p.place; acked_0 = a }))
    (acked_more c o p line plain ∙ ap (λ a. if goes c o p.datagram then is_ack_0 p.datagram.payload else a) (acked_kept c o line))

talk_there : (c o q : Endpoint) (p : Placed) (line : List Placed) → is_request p ≡ false → is_between c o p.datagram ≡ true → same_endpoint o q ≡ false
    → talk_in c q (p ∷ line) ≡ talk_in c q line
talk_there c o q p line plain between other =
    let acked : last_was_ack_0 c q (p ∷ line) ≡ last_was_ack_0 c q line =
    acked_more c q p line plain ∙ ap (λ b. if b then is_ack_0 p.datagram.payload else last_was_ack_0 c q line) (not_goes c o q p.datagram between other) in
    let found : newest_of (talks_with c q) (p ∷ line) ≡ newest_of (talks_with c q) line = rw plain (rw (not_between c o q p.datagram between other) refl) in
    λ i. option_map (λ r. record { transfer = talked_of r.place; acked_0 = acked i }) (found i)

pub talk_more : (c o q : Endpoint) (p : Placed) (line : List Placed) → is_request p ≡ false → is_between c o p.datagram ≡ true
    → talk_in c q (p ∷ line) ≡ cond (same_endpoint o q) (Some (talk_after c o (talked_of p.place) (seen_of p.datagram) (talk_in c o line))) (talk_in c q line)
talk_more c o q p line plain between = by_test (same_endpoint o q)
    (λ is. rw is (subst (λ e. talk_in c e (p ∷ line) ≡ Some (talk_after c o (talked_of p.place) (seen_of p.datagram) (talk_in c o line))) (is_same o q is) (talk_here c o p line plain between)))
    (λ off. rw off (talk_there c o q p line plain between off))
