use Rattle.audit_recording.specs.declared.rows.row.Point.TheVariants.{Client, Server, Between}
use Rattle.audit_recording.specs.Judges.{rollover_of}
use Rattle.audit_recording.proofs.blame.blame.Blame.new.Goals as goal

pub returns-clause-ends : goal.returns-clause-ends
returns-clause-ends c judging x whole frames unheard = record {
  client = λ there. c.new.ensures (rollover_of judging) Client x whole frames unheard;
  server = λ there. c.new-2.ensures (rollover_of judging) Server x whole frames unheard;
}

pub returns-clause-between : goal.returns-clause-between
returns-clause-between c judging x whole frames unheard there = c.new-3.ensures (rollover_of judging) Between x whole frames unheard
