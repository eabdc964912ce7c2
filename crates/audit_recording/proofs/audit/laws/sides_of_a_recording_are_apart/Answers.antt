use Rattle.audit_recording.proofs.AuditLemmas.Apart.{sides_apart}
use Rattle.audit_recording.proofs.audit.laws.sides_of_a_recording_are_apart.Goals as goal

pub returns : goal.returns
returns c = sides_apart
