use Rattle.std.proofs.Common.{sym, subst, ◌∙◌}
use Rattle.audit_flows.specs.Lines.{line, clock, IsLineOf, IsLineKept}
use Rattle.audit_flows.proofs.LinesLemmas.Silences.{live_kept, live_lost, live_later}
use Rattle.audit_flows.proofs.transfers.attribution.Attribution.line.Goals as goal

pub returns-then-is_recent : goal.returns-then-is_recent
returns-then-is_recent c named older after later =
    let kept = subst (IsLineKept c.args.client.now older) (sym c.in-Some.ensures.value) (after.lines c.args.client.now) in
    let live = live_kept c.in-Some.line.now c.args.now (line c.args.client.now older) kept.1 (sym c.is_recent.ensures ∙ c.if-is_recent.true) in
    (kept.0, subst (IsLineOf c.in-Some.line.now) (sym live) kept.1)

pub returns-else-is_recent : goal.returns-else-is_recent
returns-else-is_recent c named older after later =
    let kept = subst (IsLineKept c.args.client.now older) (sym c.in-Some.ensures.value) (after.lines c.args.client.now) in
    live_lost c.in-Some.line.now c.args.now (line c.args.client.now older) kept.1 (sym c.is_recent.ensures ∙ c.if-is_recent.false)

pub returns-in-None : goal.returns-in-None
returns-in-None c named older after later =
    live_later (clock older) c.args.now (line c.args.client.now older) later (subst (IsLineKept c.args.client.now older) (sym c.in-None.ensures.value) (after.lines c.args.client.now))
