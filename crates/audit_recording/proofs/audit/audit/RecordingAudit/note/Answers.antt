use Rattle.std.proofs.Common.{Option, ◌∷◌, List, subst, MatchOption}
use Rattle.audit_flows.specs.Lines.{Recorded}
use Rattle.audit_flows.specs.{Attributed}
use Rattle.audit_recording.specs.Audit.{AuditsAfter, IsAttributed, IsGivenBy}
use Rattle.audit_recording.proofs.audit.audit.RecordingAudit.note.Goals as goal

pub returns-in-Ok-Some-clause-stands : goal.returns-in-Ok-Some-clause-stands
returns-in-Ok-Some-clause-stands g c named out history passed step after of =
    let Stand : List Recorded → Type 0 = λ datagrams. AuditsAfter c.take.new.self named out (step ∷ history) datagrams in
    subst (λ (found : Option Attributed). MatchOption found (Stand passed) (λ (a : Attributed). (d : Recorded) × IsGivenBy c.args.event.now passed d × IsAttributed named passed d a × Stand (d ∷ passed)))
    c.in-Ok-Some.field-0-is (c.in-Ok-Some.ensures.stands named out history passed step after of)
