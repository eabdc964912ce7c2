use Rattle.std.proofs.Common.{inl, inr, refl}
use Rattle.audit_recording.proofs.session.notes.Notes.wait_for.Goals as goal

pub returns-then-is_waiting : goal.returns-then-is_waiting
returns-then-is_waiting c = λ s are. inl (c.if-is_waiting.ensures s.events are.losses, refl)

pub returns : goal.returns
returns c = λ s are. inr (c.if-is_waiting.ensures s.events are.losses, refl)
