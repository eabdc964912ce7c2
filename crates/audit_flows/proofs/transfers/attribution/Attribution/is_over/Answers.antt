use Rattle.std.proofs.Common.{◌≡◌, ◌≢◌, ◌≤◌, [], max, sym, ap, subst, ◌∙◌}
use Rattle.std.proofs.Math.Nat.{le-max_right}
use Rattle.audit_flows.specs.Lines.{clock, live, line}
use Rattle.audit_flows.proofs.TransfersLemmas.Serving.{line_some}
use Rattle.audit_flows.proofs.transfers.attribution.Attribution.is_over.Goals as goal

pub returns-in-Some : goal.returns-in-Some
returns-in-Some c named older after =
    let now_is : c.max.result ≡ max c.args.time (clock older) = c.max.ensures ∙ ap (max c.args.time) after.clock in
    let later : clock older ≤ c.max.result = subst (λ m. clock older ≤ m) (sym now_is) (le-max_right c.args.time (clock older)) in
    subst (λ m. live m (line c.args.client.now older) ≢ []) now_is
    (line_some c.in-Some.field-0.now (live c.max.result (line c.args.client.now older)) (c.in-Some.ensures named older after later).1)

pub returns-in-None : goal.returns-in-None
returns-in-None c named older after =
    let now_is : c.max.result ≡ max c.args.time (clock older) = c.max.ensures ∙ ap (max c.args.time) after.clock in
    let later : clock older ≤ c.max.result = subst (λ m. clock older ≤ m) (sym now_is) (le-max_right c.args.time (clock older)) in
    subst (λ m. live m (line c.args.client.now older) ≡ []) now_is (c.in-None.ensures named older after later)
