use Rattle.std.proofs.Common.{true, false, sym, ap, ◌∙◌}
use Rattle.audit_flows.specs.declared.lines.place.Place.TheVariants.{Opens}
use Rattle.audit_flows.proofs.LinesLemmas.Requests.{asked_is}
use Rattle.audit_flows.proofs.lines.line.Line.place_asked.Goals as goal

pub returns-then-asks_again : goal.returns-then-asks_again
returns-then-asks_again c line d stands from to same =
    sym (asked_is c.args.self.now line c.args.number d c.args.payload.now c.args.target true stands from to same (sym c.asks_again.ensures ∙ c.if-asks_again.true))

pub returns : goal.returns
returns c line d stands from to same =
    ap Opens c.opened.ensures
    ∙ sym (asked_is c.args.self.now line c.args.number d c.args.payload.now c.args.target false stands from to same (sym c.asks_again.ensures ∙ c.if-asks_again.false))
