use Rattle.std.proofs.Common.{◌≡◌, true, false, Some, sym, subst, ◌∙◌}
use Rattle.audit_flows.specs.Transfers.{last_served, IsServedKept}
use Rattle.audit_flows.proofs.TransfersLemmas.Serving.{served_is, served_later}
use Rattle.audit_flows.proofs.transfers.attribution.Attribution.last_served.Goals as goal

pub returns-then-is_recent : goal.returns-then-is_recent
returns-then-is_recent c named older after later =
    let kept : last_served c.args.other.now older ≡ Some c.in-Some.served.now = subst (IsServedKept c.args.other.now older) (sym c.in-Some.ensures.value) (after.served c.args.other.now) in
    served_is c.args.other.now c.args.now older c.in-Some.served.now true kept (sym c.is_recent.ensures ∙ c.if-is_recent.true)

pub returns-else-is_recent : goal.returns-else-is_recent
returns-else-is_recent c named older after later =
    let kept : last_served c.args.other.now older ≡ Some c.in-Some.served.now = subst (IsServedKept c.args.other.now older) (sym c.in-Some.ensures.value) (after.served c.args.other.now) in
    served_is c.args.other.now c.args.now older c.in-Some.served.now false kept (sym c.is_recent.ensures ∙ c.if-is_recent.false)

pub returns-in-None : goal.returns-in-None
returns-in-None c named older after later =
    sym (served_later c.args.other.now c.args.now older later (subst (IsServedKept c.args.other.now older) (sym c.in-None.ensures.value) (after.served c.args.other.now)))
