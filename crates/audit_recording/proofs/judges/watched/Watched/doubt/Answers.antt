use Rattle.std.proofs.Common.{sym, subst, ◌∙◌}
use Rattle.audit_recording.specs.Judges.{IsWatching, Watched, rollover_of}
use Rattle.audit_recording.proofs.JudgesLemmas.Watching.{judges_on}
use Rattle.audit_recording.proofs.judges.watched.Watched.doubt.Goals as goal

pub returns-clause-stands : goal.returns-clause-stands
returns-clause-stands g c judging x name p older is belongs doubts off =
    let old : IsWatching (record { transfer = c.self.inside.transfer; judges = c.self.inside.judges; doubts = c.self.inside.doubts }) judging x name older = subst (λ (w : Watched). IsWatching w judging x name older) (sym c.self.view_is) is in
    record {
      transfer = old.transfer;
      points = old.points;
      judges = judges_on (rollover_of judging) c.self.inside.judges x name p older off old.judges;
      number = c.note.ensures.number ∙ old.number;
      doubts = c.note.ensures.stands p older old.doubts belongs doubts;
    }
