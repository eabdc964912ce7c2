use Rattle.std.proofs.Common.{sym, ap, ◌∙◌}
use Rattle.audit_flows.specs.Lines.{live, line, place_at}
use Rattle.audit_flows.proofs.transfers.attribution.Attribution.place_at.Goals as goal

pub returns-in-None : goal.returns-in-None
returns-in-None c named older d after later seen = sym (ap (λ ps. place_at c.args.client.now c.args.other.now ps d) (c.in-None.ensures named older after later))

pub returns-in-Some : goal.returns-in-Some
returns-in-Some c named older d after later seen =
    let found = c.in-Some.ensures named older after later in
    c.place_at.ensures (live c.args.now (line c.args.client.now older)) d found.1 seen ∙ ap (λ e. place_at e c.args.other.now (live c.args.now (line c.args.client.now older)) d) found.0
