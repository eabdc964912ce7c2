-- The lines of all clients, with one datagram more.
use Rattle.std.proofs.Common.{◌≡◌, ◌≢◌, ◌≤◌, ℕ, ◌+◌, true, false, List, [], ◌∷◌, Option, Some, None, Result, Ok, Err, cond, refl, sym, ap, subst, ◌∙◌, OnOk, nat_le}
use Rattle.std.specs.BTreeMap.{get, BTreeMap}
use Rattle.std.specs.Ordering.{is_eq}
use Rattle.audit_flows.specs.Lines.{Recorded, same_endpoint, endpoint_cmp, Placed, is_at, live, line, clock, silence, opened_by, place_asked, IsLineOf, IsLineKept, AreLinesOf, place_of_talk}
use Rattle.audit_flows.specs.declared.lines.endpoint.Endpoint.{Endpoint}
use Rattle.audit_flows.specs.declared.lines.line.Line.{Line}
use Rattle.audit_flows.specs.declared.lines.place.Transfer.{Transfer}
use Rattle.audit_flows.specs.declared.lines.place.Place.TheVariants.{Repeats}
use Rattle.audit_flows.proofs.LinesLemmas.Endpoints.{same_by_order, is_same, same_itself}
use Rattle.audit_flows.proofs.LinesLemmas.Lines.{by_test}
use Rattle.audit_flows.proofs.LinesLemmas.Silences.{live_is, live_not, live_later}

pub on_ok_map : {X E P Q : Type 0} (r : Result X E) → (P → Q) → OnOk r P → OnOk r Q
on_ok_map (Ok x) f is = f is
on_ok_map (Err e) f is = tt

pub line_elsewhere : (c : Endpoint) (p : Placed) (older : List Placed) → is_at c p ≡ false → line c (p ∷ older) ≡ line c older
line_elsewhere c p older off = rw off refl

pub line_here : (c : Endpoint) (p : Placed) (older : List Placed) → is_at c p ≡ true → line c (p ∷ older) ≡ p ∷ live p.moment (line c older)
line_here c p older is = rw is refl

kept_later : (c : Endpoint) (p : Placed) (older : List Placed) (o : Option Line) → is_at c p ≡ false → clock older ≤ p.moment → IsLineKept c older o → IsLineKept c (p ∷ older) o
kept_later c p older None off later kept = ap (live p.moment) (line_elsewhere c p older off) ∙ live_later (clock older) p.moment (line c older) later kept
kept_later c p older (Some l) off later kept = (kept.0, subst (IsLineOf l) (sym (line_elsewhere c p older off)) kept.1)

pub lines_same : (lines : BTreeMap Endpoint Line) (p : Placed) (older : List Placed) → clock older ≤ p.moment → ((c : Endpoint) → is_at c p ≡ false) → AreLinesOf lines older → AreLinesOf lines (p ∷ older)
lines_same lines p older later none stands = λ c. kept_later c p older (get endpoint_cmp lines c) (none c) later (stands c)

pub lines_more : (lines new : BTreeMap Endpoint Line) (p : Placed) (older : List Placed) (k : Endpoint) (l : Line) → clock older ≤ p.moment → ((c : Endpoint) → is_at c p ≡ same_endpoint k c)
    → ((c : Endpoint) → get endpoint_cmp new c ≡ cond (is_eq (endpoint_cmp k c)) (Some l) (get endpoint_cmp lines c))
    → l.latest.client ≡ k → IsLineOf l (p ∷ live p.moment (line k older)) → AreLinesOf lines older → AreLinesOf new (p ∷ older)
lines_more lines new p older k l later place updates client more stands = λ c. by_test (same_endpoint k c)
    (λ is. subst (λ e. IsLineKept e (p ∷ older) (get endpoint_cmp new e)) (is_same k c is)
    (subst (IsLineKept k (p ∷ older)) (sym (updates k ∙ ap (λ b. cond b (Some l) (get endpoint_cmp lines k)) (same_by_order k k ∙ same_itself k)))
    (client, subst (IsLineOf l) (sym (line_here k p older (place k ∙ same_itself k))) more)))
    (λ off. subst (IsLineKept c (p ∷ older)) (sym (updates c ∙ ap (λ b. cond b (Some l) (get endpoint_cmp lines c)) (same_by_order k c ∙ off)))
    (kept_later c p older (get endpoint_cmp lines c) (place c ∙ off) later (stands c)))

-- a line that is not silent is the whole line
pub live_whole : (now : ℕ) (ps : List Placed) → live now ps ≢ [] → live now ps ≡ ps
live_whole now ps some = by_test (nat_le now (clock ps + silence)) (λ is. live_is now ps is) (λ off. absurd (some (live_not now ps off)))

pub at_talk : (k : Endpoint) (talked : Option Transfer) (d : Recorded) (now : ℕ) → ((x : Transfer) → talked ≡ Some x → x.client ≡ k) → (c : Endpoint)
    → is_at c (record { datagram = d; moment = now; place = place_of_talk k talked }) ≡ same_endpoint k c
at_talk k None d now clients c = refl
at_talk k (Some x) d now clients c = ap (λ e. same_endpoint e c) (clients x refl)

-- a request repeats only where the line has one
pub repeats_live : (number : ℕ) (d : Recorded) (x : Transfer) (ps : List Placed) → place_asked number d ps ≡ Repeats x → ps ≢ []
repeats_live number d x ps is none = let both : opened_by number d ≡ Repeats x = sym (ap (place_asked number d) none) ∙ is in absurd (cc)

pub on_ok_both : {X E P Q R : Type 0} (r : Result X E) → (P → Q → R) → OnOk r P → OnOk r Q → OnOk r R
on_ok_both (Ok x) f one other = f one other
on_ok_both (Err e) f one other = tt

-- with a line as it was
pub lines_back : (lines new : BTreeMap Endpoint Line) (older : List Placed) (k : Endpoint) (l : Line) → get endpoint_cmp lines k ≡ Some l
    → ((c : Endpoint) → get endpoint_cmp new c ≡ cond (is_eq (endpoint_cmp k c)) (Some l) (get endpoint_cmp lines c)) → AreLinesOf lines older → AreLinesOf new older
lines_back lines new older k l at updates stands = λ c. by_test (same_endpoint k c)
    (λ is. subst (IsLineKept c older) (sym (updates c ∙ ap (λ b. cond b (Some l) (get endpoint_cmp lines c)) (same_by_order k c ∙ is)))
    (subst (IsLineKept c older) (subst (λ e. get endpoint_cmp lines e ≡ Some l) (is_same k c is) at) (stands c)))
    (λ off. subst (IsLineKept c older) (sym (updates c ∙ ap (λ b. cond b (Some l) (get endpoint_cmp lines c)) (same_by_order k c ∙ off))) (stands c))
