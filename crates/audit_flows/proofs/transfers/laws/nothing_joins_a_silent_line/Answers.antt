use Rattle.std.proofs.Common.{sym, ap, ◌∙◌, length}
use Rattle.audit_flows.specs.Lines.{live, line}
use Rattle.audit_flows.proofs.TransfersLemmas.AllLines.{repeats_live}
use Rattle.audit_flows.proofs.TransfersLemmas.Ends.{placed_where}
use Rattle.audit_flows.proofs.transfers.laws.nothing_joins_a_silent_line.Goals as goal

pub returns-clause-talks : goal.returns-clause-talks
returns-clause-talks c named older now d x silent is = ((placed_where named older now d).talks x is).1 silent

pub returns-clause-repeats : goal.returns-clause-repeats
returns-clause-repeats c named older now d x silent is =
    let again = (placed_where named older now d).repeats x is in
    repeats_live (length older) d x (live now (line d.source older)) again.1 (sym (ap (λ e. live now (line e older)) again.0) ∙ silent)
