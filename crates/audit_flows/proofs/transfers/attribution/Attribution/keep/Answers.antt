use Rattle.std.proofs.Common.{[], ◌+◌, length, refl, sym, ap, subst, add-one, ◌∙◌}
use Rattle.audit_flows.specs.Transfers.{AreServices, AreServed, AreStrays}
use Rattle.audit_flows.proofs.transfers.attribution.Attribution.keep.Goals as goal

pub returns-clause-stands : goal.returns-clause-stands
returns-clause-stands c named older d after later seen same placed = record {
  failed = ap (λ a. a.failed) c.in_ok-keep_line.ensures.others ∙ after.failed;
  count = ap (λ a. a.count + 1) c.in_ok-keep_line.ensures.others ∙ ap (λ n. n + 1) after.count ∙ add-one (length older);
  clock = refl;
  fixed = subst (λ a. AreServices a.named.keys named []) (sym c.in_ok-keep_line.ensures.others) after.fixed;
  services = c.in_ok-keep_service.ensures.services named older d c.args.now
      (subst (λ a. AreServices a.services.keys named older) (sym c.in_ok-keep_line.ensures.others) after.services) (sym (ap (λ s. s.target.port) seen));
  lines = c.in_ok-keep_line.ensures.lines named older d after later seen same placed;
  served = c.in_ok-keep_served.ensures.served older d (subst (λ a. AreServed a.served older) (sym c.in_ok-keep_line.ensures.others) after.served) later seen;
  strays = c.in_ok-keep_strays.ensures.strays older d (subst (λ a. AreStrays a.strays older) (sym c.in_ok-keep_line.ensures.others) after.strays) later seen;
}
