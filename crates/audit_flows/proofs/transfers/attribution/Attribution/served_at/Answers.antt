use Rattle.std.proofs.Common.{None, sym, ap, ◌∙◌, if◌then◌else◌}
use Rattle.audit_flows.specs.Transfers.{served_by}
use Rattle.audit_flows.proofs.transfers.attribution.Attribution.served_at.Goals as goal

pub returns : goal.returns
returns c named older after later = c.last_served.ensures named older after later
    ∙ sym (ap (λ b. if b then None else served_by c.args.other.now c.args.now older) (sym (c.is_service.ensures named older after) ∙ c.if-is_service.false))
