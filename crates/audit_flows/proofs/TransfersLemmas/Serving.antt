-- Who served whom, after one datagram more; and the other end of a datagram.
use Rattle.std.proofs.Common.{◌≡◌, ◌≢◌, ◌≤◌, ◌⊎◌, ℕ, ◌+◌, Bool, true, false, List, [], ◌∷◌, Option, Some, None, cond, inl, inr, refl, sym, ap, subst, ◌∙◌, nat_le, if◌then◌else◌}
use Rattle.std.specs.BTreeMap.{get, BTreeMap}
use Rattle.std.specs.Ordering.{is_eq}
use Rattle.std.proofs.lemmas.Bool.{false≢true, and_from, or_right, or_left}
use Rattle.audit_flows.specs.Lines.{Recorded, same_endpoint, endpoint_cmp, goes, is_between, Placed, latest_in, clock, silence, IsLineOf, seen_of, other_end}
use Rattle.audit_flows.specs.declared.lines.endpoint.Endpoint.{Endpoint}
use Rattle.audit_flows.specs.declared.lines.place.Place.TheVariants.{Talks}
use Rattle.audit_flows.specs.declared.lines.place.Transfer.{Transfer}
use Rattle.audit_flows.specs.declared.lines.line.Line.{Line}
use Rattle.audit_flows.specs.Transfers.{newer, serves, last_served, served_within, served_by, IsServedKept, AreServed}
use Rattle.audit_flows.specs.declared.transfers.attribution.Served.{Served}
use Rattle.audit_flows.proofs.LinesLemmas.Endpoints.{same_itself, same_by_order}
use Rattle.audit_flows.proofs.LinesLemmas.Silences.{still_false}
use Rattle.audit_flows.proofs.LinesLemmas.Lines.{by_test}

pub served_there : (o : Endpoint) (d : Recorded) (x : Transfer) (now : ℕ) (rest : Option Served) → same_endpoint d.target x.client ≡ true
    → newer (serves o (record { datagram = d; moment = now; place = Talks x })) rest ≡ cond (same_endpoint d.source o) (Some (record { transfer = x; moment = now })) rest
served_there o d x now rest there = by_test (same_endpoint d.source o)
    (λ is. rw is (rw there refl))
    (λ off. rw off refl)

pub served_elsewhere : (o : Endpoint) (d : Recorded) (x : Transfer) (now : ℕ) (rest : Option Served) → same_endpoint d.target x.client ≡ false
    → newer (serves o (record { datagram = d; moment = now; place = Talks x })) rest ≡ rest
served_elsewhere o d x now rest off = by_test (same_endpoint d.source o)
    (λ is. rw is (rw off refl))
    (λ not_it. rw not_it refl)

-- a datagram is between its client and the other end
pub between_other : (c : Endpoint) (d : Recorded) → (c ≡ d.source) ⊎ (c ≡ d.target) → is_between c (other_end c (seen_of d)) d ≡ true
between_other c d which = by_test (same_endpoint d.source c)
    (λ is. subst (λ o. is_between c o d ≡ true) (sym (ap (λ b. if b then d.target else d.source) is))
    (or_left (goes c d.target d) (goes d.target c d) (and_from _ _ is (same_itself d.target))))
    (λ off. subst (λ o. is_between c o d ≡ true) (sym (ap (λ b. if b then d.target else d.source) off)) (elim which [
      | inl source ↦ absurd (false≢true (sym off ∙ subst (λ e. same_endpoint d.source e ≡ true) (sym source) (same_itself d.source)))
      | inr target ↦ or_right (goes c d.source d) (goes d.source c d) (and_from _ _ (same_itself d.source) (subst (λ e. same_endpoint d.target e ≡ true) (sym target) (same_itself d.target)))
    ]))

-- a line has a datagram
pub line_some : (l : Line) (ps : List Placed) → IsLineOf l ps → ps ≢ []
line_some l ps stands none = let both : None ≡ Some l.latest = sym (ap latest_in none) ∙ stands.latest in absurd (cc)

-- ---- whom an endpoint served last, and when that is forgotten

forgotten : (then_at now : ℕ) (last : Option Served) → then_at ≤ now → served_within then_at last ≡ None → served_within now last ≡ None
forgotten then_at now None later none = refl
forgotten then_at now (Some s) later none = by_test (nat_le then_at (s.moment + silence))
    (λ is. let both : Some s.transfer ≡ None = sym (ap (λ b. if b then Some s.transfer else None) is) ∙ none in absurd (cc))
    (λ off. ap (λ b. if b then Some s.transfer else None) (still_false then_at now (s.moment + silence) later off))

pub served_later : (o : Endpoint) (now : ℕ) (older : List Placed) → clock older ≤ now → served_by o (clock older) older ≡ None → served_by o now older ≡ None
served_later o now older later none = forgotten (clock older) now (last_served o older) later none

pub served_is : (o : Endpoint) (now : ℕ) (older : List Placed) (s : Served) (is : Bool) → last_served o older ≡ Some s → nat_le now (s.moment + silence) ≡ is
    → (if is then Some s.transfer else None) ≡ served_by o now older
served_is o now older s is kept recent = sym (ap (served_within now) kept ∙ ap (λ b. if b then Some s.transfer else None) recent)

kept_on : (o : Endpoint) (p : Placed) (older : List Placed) (kept : Option Served) → last_served o (p ∷ older) ≡ last_served o older → clock older ≤ p.moment
    → IsServedKept o older kept → IsServedKept o (p ∷ older) kept
kept_on o p older None same later none = ap (served_within p.moment) same ∙ served_later o p.moment older later none
kept_on o p older (Some s) same later is = same ∙ is

-- after a datagram that serves nobody
pub served_same : (served : BTreeMap Endpoint Served) (p : Placed) (older : List Placed) → clock older ≤ p.moment → ((o : Endpoint) → last_served o (p ∷ older) ≡ last_served o older)
    → AreServed served older → AreServed served (p ∷ older)
served_same served p older later same stands = λ o. kept_on o p older (get endpoint_cmp served o) (same o) later (stands o)

-- and after one that serves a client
pub served_more : (served new : BTreeMap Endpoint Served) (p : Placed) (older : List Placed) (k : Endpoint) (s : Served) → clock older ≤ p.moment
    → ((o : Endpoint) → last_served o (p ∷ older) ≡ cond (same_endpoint k o) (Some s) (last_served o older))
    → ((o : Endpoint) → get endpoint_cmp new o ≡ cond (is_eq (endpoint_cmp k o)) (Some s) (get endpoint_cmp served o))
    → AreServed served older → AreServed new (p ∷ older)
served_more served new p older k s later last updates stands = λ o. by_test (same_endpoint k o)
    (λ is. subst (IsServedKept o (p ∷ older)) (sym (updates o ∙ ap (λ b. cond b (Some s) (get endpoint_cmp served o)) (same_by_order k o ∙ is)))
    (last o ∙ ap (λ b. cond b (Some s) (last_served o older)) is))
    (λ off. subst (IsServedKept o (p ∷ older)) (sym (updates o ∙ ap (λ b. cond b (Some s) (get endpoint_cmp served o)) (same_by_order k o ∙ off)))
    (kept_on o p older (get endpoint_cmp served o) (last o ∙ ap (λ b. cond b (Some s) (last_served o older)) off) later (stands o)))
