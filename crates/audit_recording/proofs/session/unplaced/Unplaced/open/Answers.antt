use Rattle.audit_recording.proofs.ReasonsLemmas.Unplaced.{opened}
use Rattle.audit_recording.proofs.session.unplaced.Unplaced.open.Goals as goal

pub returns-in-Some-clause-stands : goal.returns-in-Some-clause-stands
returns-in-Some-clause-stands c = λ history stands. opened c.args.self.now c.insert.new.self c.args.client c.args.number history c.in_ok-insert.ensures.updates.0 stands

pub returns-in_default-clause-stands : goal.returns-in_default-clause-stands
returns-in_default-clause-stands c = λ history stands. opened c.args.self.now c.insert.new.self c.args.client c.args.number history c.in_ok-insert.ensures.updates.0 stands

pub returns-in_default-2-clause-stands : goal.returns-in_default-2-clause-stands
returns-in_default-2-clause-stands c = λ history stands. opened c.args.self.now c.insert.new.self c.args.client c.args.number history c.in_ok-insert.ensures.updates.0 stands
