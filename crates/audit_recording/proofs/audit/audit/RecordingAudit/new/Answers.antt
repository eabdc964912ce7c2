use Rattle.std.proofs.Common.{refl}
use Rattle.audit_views.specs.Parties.{host_name}
use Rattle.audit_recording.proofs.audit.audit.RecordingAudit.new.Goals as goal

pub returns-clause-stands : goal.returns-clause-stands
returns-clause-stands g c = record { frames = refl; judges = c.in_ok-new.ensures.stands host_name; time = refl; sound = tt }
