use Rattle.std.proofs.Common.{◌≤◌, arith}
use Rattle.audit_recording.proofs.LossesLemmas.Changing.{on_ok}
use Rattle.audit_recording.proofs.SessionLemmas.Noting.{after_all, up_to_more}
use Rattle.audit_recording.proofs.session.notes.Notes.ask.Goals as goal

pub returns-clause-stands : goal.returns-clause-stands
returns-clause-stands c = λ s are later.
    let low : s.last ≤ c.args.trail.now.first = omega arith in
    on_ok c.ask.result
    (λ losses. record {
      losses = losses;
      frames = (omega arith, up_to_more s.last c.args.trail.now.first s.events low are.frames);
      discards = are.discards;
      clock = are.clock;
      kinds = are.kinds;
      behind = are.behind;
      begun = are.begun;
      asked = are.asked;
    })
    (c.ask.ensures s.events are.losses (after_all s.last c.args.trail.now.first s.events are.frames later))
