-- How what is kept of one host changes, in the map of all.
use Rattle.std.proofs.Common.{◌≡◌, ◌==◌, ℕ, cond, Option, Some, None, IsSome, is_some, Result, Ok, Err, OnOk, inl, inr, sym, ap, subst, ◌∙◌}
use Rattle.std.specs.BTreeMap.{BTreeMap, get}
use Rattle.std.specs.Ordering.{is_eq, nat_cmp}
use Rattle.std.proofs.lemmas.Bool.{false≢true}
use Rattle.audit_flows.specs.{Address, Endpoint}
use Rattle.audit_flows.specs.Lines.{endpoint_cmp}
use Rattle.audit_flows.proofs.LinesLemmas.Endpoints.{same_by_order, same_itself}
use Rattle.audit_recording.specs.declared.session.host_losses.HostLosses.{HostLosses}
use Rattle.audit_recording.specs.Losses.Kept.{Changes, HasAskedIn, HasLost, HasWaited, host_end, of_host}

pub on_ok : {T E P Q : Type 0} (r : Result T E) → (P → Q) → OnOk r P → OnOk r Q
on_ok (Ok x) make is = make is
on_ok (Err e) make is = tt

changed_there : (old new : BTreeMap Endpoint HostLosses) (host : Address) (How : Option HostLosses → Option HostLosses → Type 0) (was : Option HostLosses) (l : HostLosses)
    → get endpoint_cmp old (host_end host) ≡ was
    → ((q : Endpoint) → get endpoint_cmp new q ≡ cond (is_eq (endpoint_cmp (host_end host) q)) (Some l) (get endpoint_cmp old q))
    → How was (Some l) → Changes old new host How
changed_there old new host How was l before updates how = record {
  there = subst (λ w. How w (of_host new host)) (sym before)
      (subst (λ n. How was n)
      (sym (updates (host_end host)
      ∙ ap (λ b. cond b (Some l) (get endpoint_cmp old (host_end host))) (same_by_order (host_end host) (host_end host) ∙ same_itself (host_end host))))
      how);
  others = λ other off.
      updates (host_end other)
      ∙ ap (λ b. cond b (Some l) (get endpoint_cmp old (host_end other))) (same_by_order (host_end host) (host_end other) ∙ off);
}

pub changed : (old new : BTreeMap Endpoint HostLosses) (host : Address) (key : Endpoint) (How : Option HostLosses → Option HostLosses → Type 0) (was : Option HostLosses) (l : HostLosses)
    → key ≡ host_end host → get endpoint_cmp old key ≡ was
    → ((q : Endpoint) → get endpoint_cmp new q ≡ cond (is_eq (endpoint_cmp key q)) (Some l) (get endpoint_cmp old q))
    → How was (Some l) → Changes old new host How
changed old new host key How was l at before updates how =
    changed_there old new host How was l (ap (get endpoint_cmp old) (sym at) ∙ before)
    (λ q. updates q ∙ ap (λ k. cond (is_eq (endpoint_cmp k q)) (Some l) (get endpoint_cmp old q)) at) how

-- ---- where nothing was kept

pub asked_first : (fresh l : HostLosses) (frame : ℕ) → ((n : ℕ) → get nat_cmp fresh.lost n ≡ None) → ((n : ℕ) → get nat_cmp fresh.waiting n ≡ None)
    → HasAskedIn (Some fresh) (Some l) frame → HasAskedIn None (Some l) frame
asked_first fresh l frame lost waits has = record { lost = λ n. has.lost n ∙ lost n; waits = λ n. has.waits n ∙ waits n; asked = has.asked }

pub waited_first : (fresh l : HostLosses) (frame : ℕ) (time : Option ℕ) → ((n : ℕ) → get nat_cmp fresh.lost n ≡ None) → ((n : ℕ) → get nat_cmp fresh.waiting n ≡ None)
    → fresh.asked ≡ 0 → HasWaited (Some fresh) (Some l) frame time → HasWaited None (Some l) frame time
waited_first fresh l frame time lost waits asked has = record {
  lost = λ n. has.lost n ∙ lost n;
  asked = has.asked ∙ asked;
  waits = λ n. has.waits n ∙ ap (cond (frame == n) time) (waits n);
}

none_is_no : (o : Option ℕ) → IsSome o → o ≡ None → ⊥
none_is_no o some none = absurd (false≢true (sym (ap is_some none) ∙ some))

pub lost_first : (fresh l : HostLosses) (frame time : ℕ) → ((n : ℕ) → get nat_cmp fresh.lost n ≡ None) → ((n : ℕ) → get nat_cmp fresh.waiting n ≡ None)
    → fresh.asked ≡ 0 → HasLost (Some fresh) (Some l) frame time → HasLost None (Some l) frame time
lost_first fresh l frame time lost waits asked has = record {
  waits = λ n. has.waits n ∙ waits n;
  asked = has.asked ∙ asked;
  lost = elim has.lost [
    | inl noted ↦ absurd (none_is_no (get nat_cmp fresh.lost noted.0.0) noted.0.1 (lost noted.0.0))
    | inr more ↦ inr (λ n. more n ∙ ap (cond (frame == n) (Some time)) (lost n))
  ];
}

pub begun : {between : BTreeMap Endpoint HostLosses} (old new : BTreeMap Endpoint HostLosses) (host : Address) (key : Endpoint) (How : Option HostLosses → Option HostLosses → Type 0) (l : HostLosses)
    → between ≡ old → key ≡ host_end host → get endpoint_cmp old key ≡ None
    → ((q : Endpoint) → get endpoint_cmp new q ≡ cond (is_eq (endpoint_cmp key q)) (Some l) (get endpoint_cmp between q))
    → How None (Some l) → Changes old new host How
begun {between} old new host key How l same at before updates how =
    changed old new host key How None l at before
    (λ q. updates q ∙ ap (λ m. cond (is_eq (endpoint_cmp key q)) (Some l) (get endpoint_cmp m q)) same) how
