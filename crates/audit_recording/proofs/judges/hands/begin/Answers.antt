use Rattle.audit_recording.proofs.JudgesLemmas.Keeping.{crowded_more, crowded_same, opens_one}
use Rattle.audit_recording.proofs.judges.hands.begin.Goals as goal

pub returns-in_err-before-clause-crowded : goal.returns-in_err-before-clause-crowded
returns-in_err-before-clause-crowded g c crowded = crowded_same _ _ c.in_err-before.ensures.err crowded

pub returns-clause-kept : goal.returns-clause-kept
returns-clause-kept g c name out p older opens unknown kept =
    opens_one c.args.watched.now c.insert.new.self c.new.result c.args.transfer c.args.judging name out p older opens unknown (c.new.ensures.stands name) c.in_ok-before.ensures.updates.0 kept

pub returns-clause-crowded : goal.returns-clause-crowded
returns-clause-crowded g c crowded = crowded_more c.args.watched.now c.insert.new.self c.new.result c.args.transfer.number c.new.ensures.none c.in_ok-before.ensures.updates.0 crowded
