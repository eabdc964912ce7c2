-- What is let go after 300 s.
use Rattle.std.proofs.Common.{◌≡◌, ◌+◌, ℕ, false, List, [], Option, Some, None, cond, inl, inr, sym, ap, subst, ◌∙◌, nat_le, IsSomeAnd}
use Rattle.std.specs.BTreeMap.{get, BTreeMap}
use Rattle.std.specs.Ordering.{is_eq}
use Rattle.audit_flows.specs.Lines.{Placed, same_endpoint, endpoint_cmp, live, line, clock, silence, IsLineKept, AreLinesOf}
use Rattle.audit_flows.specs.declared.lines.endpoint.Endpoint.{Endpoint}
use Rattle.audit_flows.specs.declared.lines.line.Line.{Line}
use Rattle.audit_flows.proofs.LinesLemmas.Endpoints.{same_by_order, is_same}
use Rattle.audit_flows.proofs.LinesLemmas.Lines.{by_test}
use Rattle.audit_flows.proofs.LinesLemmas.Silences.{live_lost}
use Rattle.audit_flows.specs.Transfers.{served_by, IsServedKept, AreServed, Forgets}
use Rattle.audit_flows.specs.declared.transfers.attribution.Served.{Served}
use Rattle.audit_flows.proofs.TransfersLemmas.Serving.{served_is}

-- what is kept of the endpoint is older than 300 s
abbrev pub IsOld : {V : Type 0} → (V → ℕ) → ℕ → Option V → Type 0
IsOld moment now kept = IsSomeAnd kept (λ v. nat_le now (moment v + silence) ≡ false)

pub forgets_one : {V : Type 0} (moment : V → ℕ) (now : ℕ) (kept left : BTreeMap Endpoint V) (k : Endpoint) → IsOld moment now (get endpoint_cmp kept k)
    → ((o : Endpoint) → get endpoint_cmp left o ≡ cond (is_eq (endpoint_cmp k o)) None (get endpoint_cmp kept o)) → Forgets moment now kept left
forgets_one moment now kept left k old updates = λ o. by_test (same_endpoint k o)
    (λ is. inr (updates o ∙ ap (λ b. cond b None (get endpoint_cmp kept o)) (same_by_order k o ∙ is), subst (λ e. IsOld moment now (get endpoint_cmp kept e)) (is_same k o is) old))
    (λ off. inl (updates o ∙ ap (λ b. cond b None (get endpoint_cmp kept o)) (same_by_order k o ∙ off)))

pub forgets_both : {V : Type 0} (moment : V → ℕ) (now : ℕ) (kept some left : BTreeMap Endpoint V) → Forgets moment now kept some → Forgets moment now some left → Forgets moment now kept left
forgets_both moment now kept some left one other = λ o. elim (other o) [
  | inl same ↦ elim (one o) [
    | inl as_before ↦ inl (same ∙ as_before)
    | inr (gone, old) ↦ inr (same ∙ gone, old)
  ]
  | inr (gone, old) ↦ elim (one o) [
    | inl as_before ↦ inr (gone, subst (IsOld moment now) as_before old)
    | inr (_, was) ↦ inr (gone, was)
  ]
]

silent : (c : Endpoint) (older : List Placed) (kept : Option Line) → IsLineKept c older kept → IsOld (λ l. l.moment) (clock older) kept → live (clock older) (line c older) ≡ []
silent c older None is old = absurd old
silent c older (Some l) is old = live_lost l (clock older) (line c older) is.1 old

pub lines_left : (older : List Placed) (kept left : BTreeMap Endpoint Line) → Forgets (λ l. l.moment) (clock older) kept left → AreLinesOf kept older → AreLinesOf left older
lines_left older kept left forgets stands = λ c. elim (forgets c) [
  | inl same ↦ subst (IsLineKept c older) (sym same) (stands c)
  | inr (gone, old) ↦ subst (IsLineKept c older) (sym gone) (silent c older (get endpoint_cmp kept c) (stands c) old)
]

unserved : (o : Endpoint) (older : List Placed) (kept : Option Served) → IsServedKept o older kept → IsOld (λ s. s.moment) (clock older) kept → served_by o (clock older) older ≡ None
unserved o older None is old = absurd old
unserved o older (Some s) is old = sym (served_is o (clock older) older s false is old)

pub served_left : (older : List Placed) (kept left : BTreeMap Endpoint Served) → Forgets (λ s. s.moment) (clock older) kept left → AreServed kept older → AreServed left older
served_left older kept left forgets stands = λ o. elim (forgets o) [
  | inl same ↦ subst (IsServedKept o older) (sym same) (stands o)
  | inr (gone, old) ↦ subst (IsServedKept o older) (sym gone) (unserved o older (get endpoint_cmp kept o) (stands o) old)
]
