use Rattle.std.proofs.Common.{ap, ◌∙◌}
use Rattle.audit_flows.specs.Transfers.{served_at, beside_by}
use Rattle.audit_flows.proofs.transfers.attribution.Attribution.beside.Goals as goal

pub returns : goal.returns
returns c named older d after later seen = c.beside_by.ensures
    ∙ (λ i. beside_by (c.served_at.ensures named older after later i) (c.served_at-2.ensures named older after later i))
    ∙ ap (λ s. beside_by (served_at named older c.args.now s.source) (served_at named older c.args.now s.target)) seen
