use Rattle.std.proofs.Common.{sym, ap, ◌∙◌, is_some}
use Rattle.audit_flows.specs.Lines.{live, line, talk_in}
use Rattle.audit_flows.proofs.transfers.attribution.Attribution.talks.Goals as goal

pub returns-in-None : goal.returns-in-None
returns-in-None c named older after later = sym (ap (λ ps. is_some (talk_in c.args.client.now c.args.other.now ps)) (c.in-None.ensures named older after later))

pub returns-in-Some : goal.returns-in-Some
returns-in-Some c named older after later =
    let found = c.in-Some.ensures named older after later in
    c.talks_with.ensures ∙ ap is_some (found.1.talks c.args.other.now) ∙ ap (λ e. is_some (talk_in e c.args.other.now (live c.args.now (line c.args.client.now older)))) found.0
