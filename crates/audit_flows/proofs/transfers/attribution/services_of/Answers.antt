use Rattle.std.proofs.Common.{◌≡◌, ◌<◌, ℕ, Bool, true, false, cond, length, take, get_or, rules, arith, refl, sym, ap, ◌∙◌, ◌==◌, ◌||◌}
use Rattle.std.specs.Cmp.Rules.{comparing}
use Rattle.std.specs.List.{list_any}
use Rattle.std.specs.Ordering.{nat_cmp, is_eq}
use Rattle.std.proofs.lemmas.List.Folds.{list_any_more}
use Rattle.audit_flows.proofs.transfers.attribution.services_of.Goals as goal

same_number : (m n : ℕ) → is_eq (nat_cmp m n) ≡ (m == n)
same_number m n = search (comparing, rules)

turned : (t a l : Bool) → cond t true (a || l) ≡ (a || (l || t))
turned true true l = refl
turned true false true = refl
turned true false false = refl
turned false true l = refl
turned false false true = refl
turned false false false = refl

pub loop-port-preserved : goal.loop-port-preserved
loop-port-preserved c port =
    let below : c.loop-port.port-index < length c.args.named.now = omega arith in
    c.in_ok-insert-2.ensures.updates.0 port
    ∙ (λ i. cond (same_number (get_or c.args.named.now c.loop-port.port-index 0) port i) true (c.loop-port.invariant port i))
    ∙ turned (get_or c.args.named.now c.loop-port.port-index 0 == port) (port == 69) (list_any (λ n. n == port) (take c.loop-port.port-index c.args.named.now))
    ∙ ap (λ b. (port == 69) || b) (sym (list_any_more (λ n. n == port) c.args.named.now c.loop-port.port-index 0 below))
