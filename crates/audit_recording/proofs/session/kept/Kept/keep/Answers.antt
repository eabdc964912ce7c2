use Rattle.audit_recording.proofs.session.kept.Kept.keep.Goals as goal

pub returns-clause-kept : goal.returns-clause-kept
returns-clause-kept c sound = (c.in-Some.text, c.in-Some.ensures.transfer, (λ name. c.in-Some.ensures.after name), c.in_ok-insert.ensures.updates.0)
