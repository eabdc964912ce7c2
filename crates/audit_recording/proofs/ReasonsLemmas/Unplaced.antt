-- What is kept of datagrams of no transfer, with one event more.
use Rattle.std.proofs.Common.{◌≡◌, ◌&&◌, ◌||◌, ◌∷◌, nat_lt, ℕ, Bool, true, false, cond, List, Option, Some, None, Result, Ok, Err, OnOk, refl, sym, ap, ◌∙◌}
use Rattle.std.specs.BTreeMap.{BTreeMap, get}
use Rattle.std.specs.Ordering.{is_eq}
use Rattle.std.proofs.lemmas.Bool.{false≢true}
use Rattle.audit_flows.specs.{Endpoint}
use Rattle.audit_flows.specs.Lines.{endpoint_cmp, same_endpoint}
use Rattle.audit_flows.proofs.LinesLemmas.Endpoints.{is_same, same_by_order}
use Rattle.audit_recording.specs.declared.session.unplaced.Moment.{Moment}
use Rattle.audit_recording.specs.declared.session.unplaced.Unplaced.{Unplaced}
use Rattle.audit_recording.specs.Reasons.Unplaced.{Event, IsUnplacedAfter, begins_so, is_it, is_later, later, latest_at}
use Rattle.audit_recording.specs.Reasons.Unplaced.Event.{Ends, Opens, Passes}

pub on_ok : {T E P Q : Type 0} (r : Result T E) → (P → Q) → OnOk r P → OnOk r Q
on_ok (Ok x) make is = make is
on_ok (Err e) make is = tt

-- ---- at two endpoints, which may be one

either : {A : Type 0} (b : Bool) (x : A) → cond b x x ≡ x
either true x = refl
either false x = refl

later_again_one : (b : Bool) (before m : Moment) → nat_lt before.time m.time ≡ b → later (cond b (Some m) (Some before)) m ≡ cond b (Some m) (Some before)
later_again_one true before m is = either (nat_lt m.time m.time) (Some m)
later_again_one false before m is = ap (λ b. cond b (Some m) (Some before)) is

later_again : (o : Option Moment) (m : Moment) → later (later o m) m ≡ later o m
later_again None m = either (nat_lt m.time m.time) (Some m)
later_again (Some before) m = later_again_one (nat_lt before.time m.time) before m refl

both_noted : (one other : Bool) (x : Option Moment) (m : Moment) → cond other (later (cond one (later x m) x) m) (cond one (later x m) x) ≡ cond (one || other) (later x m) x
both_noted true true x m = later_again x m
both_noted true false x m = refl
both_noted false true x m = refl
both_noted false false x m = refl

pub passed : (u : Unplaced) (middle new : BTreeMap Endpoint Moment) (source target : Endpoint) (payload : List ℕ) (m : Moment) (history : List Event) → begins_so payload ≡ true
    → ((e : Endpoint) → get endpoint_cmp middle e ≡ cond (same_endpoint source e) (later (get endpoint_cmp u.latest e) m) (get endpoint_cmp u.latest e))
    → ((e : Endpoint) → get endpoint_cmp new e ≡ cond (same_endpoint target e) (later (get endpoint_cmp middle e) m) (get endpoint_cmp middle e))
    → IsUnplacedAfter u history → IsUnplacedAfter (record { latest = new; of_clients = u.of_clients }) (Passes source target payload m ∷ history)
passed u middle new source target payload m history is first second stands = record {
  latest = λ e.
      second e
      ∙ ap (λ x. cond (same_endpoint target e) (later x m) x) (first e)
      ∙ both_noted (same_endpoint source e) (same_endpoint target e) (get endpoint_cmp u.latest e) m
      ∙ ap (λ x. cond (same_endpoint source e || same_endpoint target e) (later x m) x) (stands.latest e)
      ∙ sym (ap (λ b. cond (b && (same_endpoint source e || same_endpoint target e)) (later (latest_at e history) m) (latest_at e history)) is);
  clients = stands.clients;
}

pub not_passed : (u : Unplaced) (source target : Endpoint) (payload : List ℕ) (m : Moment) (history : List Event) → begins_so payload ≡ false
    → IsUnplacedAfter u history → IsUnplacedAfter u (Passes source target payload m ∷ history)
not_passed u source target payload m history off stands = record {
  latest = λ e. stands.latest e ∙ sym (ap (λ b. cond (b && (same_endpoint source e || same_endpoint target e)) (later (latest_at e history) m) (latest_at e history)) off);
  clients = stands.clients;
}

-- ---- at one endpoint

pub by_endpoint : {V : Type 0} (old new : BTreeMap Endpoint V) (end : Endpoint) (value : Option V) → ((e : Endpoint) → get endpoint_cmp new e ≡ cond (is_eq (endpoint_cmp end e)) value (get endpoint_cmp old e))
    → (e : Endpoint) → get endpoint_cmp new e ≡ cond (same_endpoint end e) value (get endpoint_cmp old e)
by_endpoint old new end value updates e = updates e ∙ ap (λ b. cond b value (get endpoint_cmp old e)) (same_by_order end e)

later_is : (o : Option Moment) (m : Moment) → is_later o m ≡ true → later o m ≡ Some m
later_is None m is = refl
later_is (Some before) m is = ap (λ b. cond b (Some m) (Some before)) is

not_later : (o : Option Moment) (m : Moment) → is_later o m ≡ false → o ≡ later o m
not_later None m off = absurd (false≢true (sym off))
not_later (Some before) m off = sym (ap (λ b. cond b (Some m) (Some before)) off)

noted_one : (same : Bool) (x : Option Moment) (m : Moment) → (same ≡ true → is_later x m ≡ true) → cond same (Some m) x ≡ cond same (later x m) x
noted_one true x m is = sym (later_is x m (is refl))
noted_one false x m is = refl

not_noted_one : (same : Bool) (x : Option Moment) (m : Moment) → (same ≡ true → is_later x m ≡ false) → x ≡ cond same (later x m) x
not_noted_one true x m off = not_later x m (off refl)
not_noted_one false x m off = refl

pub noted : (old new : BTreeMap Endpoint Moment) (end : Endpoint) (m : Moment) → is_later (get endpoint_cmp old end) m ≡ true
    → ((e : Endpoint) → get endpoint_cmp new e ≡ cond (is_eq (endpoint_cmp end e)) (Some m) (get endpoint_cmp old e))
    → (e : Endpoint) → get endpoint_cmp new e ≡ cond (same_endpoint end e) (later (get endpoint_cmp old e) m) (get endpoint_cmp old e)
noted old new end m is updates e =
    by_endpoint old new end (Some m) updates e
    ∙ noted_one (same_endpoint end e) (get endpoint_cmp old e) m (λ same. ap (λ x. is_later (get endpoint_cmp old x) m) (sym (is_same end e same)) ∙ is)

pub not_noted : (old : BTreeMap Endpoint Moment) (end : Endpoint) (m : Moment) → is_later (get endpoint_cmp old end) m ≡ false
    → (e : Endpoint) → get endpoint_cmp old e ≡ cond (same_endpoint end e) (later (get endpoint_cmp old e) m) (get endpoint_cmp old e)
not_noted old end m off e =
    not_noted_one (same_endpoint end e) (get endpoint_cmp old e) m (λ same. ap (λ x. is_later (get endpoint_cmp old x) m) (sym (is_same end e same)) ∙ off)

-- ---- the newest transfers

pub opened : (u : Unplaced) (new : BTreeMap Endpoint ℕ) (client : Endpoint) (number : ℕ) (history : List Event)
    → ((e : Endpoint) → get endpoint_cmp new e ≡ cond (is_eq (endpoint_cmp client e)) (Some number) (get endpoint_cmp u.of_clients e))
    → IsUnplacedAfter u history → IsUnplacedAfter (record { latest = u.latest; of_clients = new }) (Opens client number ∷ history)
opened u new client number history updates stands = record {
  latest = stands.latest;
  clients = λ c. by_endpoint u.of_clients new client (Some number) updates c ∙ ap (cond (same_endpoint client c) (Some number)) (stands.clients c);
}

is_ended : (same it : Bool) (x : Option ℕ) → (same ≡ true → it ≡ true) → cond same None x ≡ cond (same && it) None x
is_ended true it x is = sym (ap (λ b. cond b None x) (is refl))
is_ended false it x is = refl

not_ended : (same it : Bool) (x : Option ℕ) → (same ≡ true → it ≡ false) → x ≡ cond (same && it) None x
not_ended true it x off = sym (ap (λ b. cond b None x) (off refl))
not_ended false it x off = refl

pub ended : (u : Unplaced) (left : BTreeMap Endpoint ℕ) (client : Endpoint) (number : ℕ) (history : List Event) → is_it number (get endpoint_cmp u.of_clients client) ≡ true
    → ((e : Endpoint) → get endpoint_cmp left e ≡ cond (is_eq (endpoint_cmp client e)) None (get endpoint_cmp u.of_clients e))
    → IsUnplacedAfter u history → IsUnplacedAfter (record { latest = u.latest; of_clients = left }) (Ends client number ∷ history)
ended u left client number history is updates stands = record {
  latest = stands.latest;
  clients = λ c.
      by_endpoint u.of_clients left client None updates c
      ∙ is_ended (same_endpoint client c) (is_it number (get endpoint_cmp u.of_clients c)) (get endpoint_cmp u.of_clients c)
      (λ same. ap (λ e. is_it number (get endpoint_cmp u.of_clients e)) (sym (is_same client c same)) ∙ is)
      ∙ ap (λ x. cond (same_endpoint client c && is_it number x) None x) (stands.clients c);
}

pub not_its_end : (u : Unplaced) (client : Endpoint) (number : ℕ) (history : List Event) → is_it number (get endpoint_cmp u.of_clients client) ≡ false
    → IsUnplacedAfter u history → IsUnplacedAfter u (Ends client number ∷ history)
not_its_end u client number history off stands = record {
  latest = stands.latest;
  clients = λ c.
      not_ended (same_endpoint client c) (is_it number (get endpoint_cmp u.of_clients c)) (get endpoint_cmp u.of_clients c)
      (λ same. ap (λ e. is_it number (get endpoint_cmp u.of_clients e)) (sym (is_same client c same)) ∙ off)
      ∙ ap (λ x. cond (same_endpoint client c && is_it number x) None x) (stands.clients c);
}
