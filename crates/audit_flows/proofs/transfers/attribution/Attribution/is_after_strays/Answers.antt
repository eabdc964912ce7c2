use Rattle.std.proofs.Common.{sym, subst, ◌∙◌}
use Rattle.audit_flows.specs.Transfers.{IsStrayKept}
use Rattle.audit_flows.proofs.TransfersLemmas.Straying.{strays_none, strays_some}
use Rattle.audit_flows.proofs.transfers.attribution.Attribution.is_after_strays.Goals as goal

pub returns-in-Some : goal.returns-in-Some
returns-in-Some c named older after later =
    c.is_recent.ensures ∙ strays_some c.args.client.now c.args.now older c.in-Some.last.now (subst (IsStrayKept c.args.client.now older) (sym c.in-Some.ensures.value) (after.strays c.args.client.now))

pub returns-in-None : goal.returns-in-None
returns-in-None c named older after later =
    strays_none c.args.client.now c.args.now older later (subst (IsStrayKept c.args.client.now older) (sym c.in-None.ensures.value) (after.strays c.args.client.now))
