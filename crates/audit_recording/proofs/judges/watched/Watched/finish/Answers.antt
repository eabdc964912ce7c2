use Rattle.std.proofs.Common.{sym, subst}
use Rattle.audit_recording.specs.Judges.{AreAt, Watched, points_of}
use Rattle.audit_recording.proofs.judges.watched.Watched.finish.Goals as goal

pub returns-clause-points : goal.returns-clause-points
returns-clause-points g c judging x name whole is =
    c.finish.ensures.points (points_of judging x) (subst (λ (w : Watched). AreAt w.judges (points_of judging x)) (sym c.self.view_is) is.points)
