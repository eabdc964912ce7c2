use Rattle.std.proofs.Common.{refl}
use Rattle.audit_flows.proofs.LinesLemmas.Requests.{repeated_stands}
use Rattle.audit_flows.proofs.lines.line.Line.repeat.Goals as goal

pub returns-clause-stands : goal.returns-clause-stands
returns-clause-stands c line d number x stands from passed is =
    repeated_stands c.args.self.now _ c.note_time.new.newest line d number x c.args.time c.args.now stands from is refl c.in_ok-note_time.ensures.times passed
