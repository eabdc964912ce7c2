use Rattle.std.proofs.Common.{sym, ◌∙◌}
use Rattle.audit_recording.specs.Blame.Frames.{framed, whole_of}
use Rattle.audit_recording.specs.Judges.{rollover_of}
use Rattle.audit_recording.proofs.BlameLemmas.Answering.{blamed_between}
use Rattle.audit_recording.proofs.blame.trail.Trail.between.Goals as goal

pub returns-in-Some : goal.returns-in-Some
returns-in-Some c judging x named carried was passed there apart judged =
    blamed_between c.args.self.now judging x named carried c.in-Some.number c.at.result was c.args.verdict.now (sym c.refused_between.ensures ∙ c.in-Some.is) passed there apart judged
    (λ held. c.at.ensures (rollover_of judging) x (whole_of named carried) (framed named carried) (passed there) was.number was.ends held)
