use Rattle.std.proofs.Common.{sym, ap, is_some}
use Rattle.audit_flows.specs.Lines.{latest_in}
use Rattle.audit_flows.proofs.transfers.attribution.Attribution.is_client.Goals as goal

pub returns-in-None : goal.returns-in-None
returns-in-None c named older after later = sym (ap (λ ps. is_some (latest_in ps)) (c.in-None.ensures named older after later))

pub returns-in-Some : goal.returns-in-Some
returns-in-Some c named older after later = sym (ap is_some (c.in-Some.ensures named older after later).1.latest)
