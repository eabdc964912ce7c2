use Rattle.std.proofs.Common.{ap, ◌∙◌}
use Rattle.audit_flows.specs.Lines.{live, line, place_at}
use Rattle.audit_flows.specs.Transfers.{either}
use Rattle.audit_flows.proofs.transfers.attribution.Attribution.at_client.Goals as goal

pub returns : goal.returns
returns c named older d after later seen = c.either.ensures
    ∙ (λ i. either (c.place_at.ensures named older d after later seen i) (c.place_at-2.ensures named older d after later seen i))
    ∙ ap (λ s. either (place_at s.source s.target (live c.args.now (line s.source older)) d) (place_at s.target s.source (live c.args.now (line s.target older)) d)) seen
