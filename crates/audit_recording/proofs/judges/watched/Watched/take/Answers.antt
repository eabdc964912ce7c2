use Rattle.std.proofs.Common.{sym, subst, ◌∙◌}
use Rattle.audit_recording.specs.Judges.{IsWatching, Watched, points_of, rollover_of}
use Rattle.audit_recording.proofs.judges.watched.Watched.take.Goals as goal

pub returns-clause-stands : goal.returns-clause-stands
returns-clause-stands g c judging x name p older is fed belongs doubts =
    let old : IsWatching (record { transfer = c.self.inside.transfer; judges = c.self.inside.judges; doubts = c.self.inside.doubts }) judging x name older = subst (λ (w : Watched). IsWatching w judging x name older) (sym c.self.view_is) is in
    record {
      transfer = old.transfer;
      points = c.in_ok-feed.ensures.points (points_of judging x) old.points;
      judges = c.in_ok-feed.ensures.after (rollover_of judging) x name p older old.judges fed;
      number = c.note.ensures.number ∙ old.number;
      doubts = c.note.ensures.stands p older old.doubts belongs doubts;
    }
