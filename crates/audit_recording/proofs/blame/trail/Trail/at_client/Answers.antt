use Rattle.std.proofs.Common.{sym, ◌∙◌}
use Rattle.audit_recording.specs.Blame.Frames.{framed, whole_of}
use Rattle.audit_recording.specs.Judges.{rollover_of}
use Rattle.audit_recording.proofs.BlameLemmas.Answering.{blamed_at_client}
use Rattle.audit_recording.proofs.blame.trail.Trail.at_client.Goals as goal

pub returns-in-Some : goal.returns-in-Some
returns-in-Some c judging x named carried was there judged =
    blamed_at_client c.args.self.now judging x named carried c.in-Some.number c.at.result was c.args.verdict.now (sym c.refused_in.ensures ∙ c.in-Some.is) there judged
    (λ held. c.at.ensures (rollover_of judging) x (whole_of named carried) (framed named carried) (was.blame.client there) was.number was.ends held)
