use Rattle.std.proofs.Common.{◌<◌, ◌+◌, ◌∷◌, drop, get_or, length, arith, refl}
use Rattle.std.proofs.lemmas.List.{drop_all}
use Rattle.audit_recording.specs.Losses.Noted.Event.{GivesUp}
use Rattle.audit_recording.specs.Session.Noted.{lost_frames, told_in}
use Rattle.audit_recording.proofs.SessionLemmas.Lines.{more_lost}
use Rattle.audit_recording.proofs.SessionLemmas.Noting.{begins, ends, one_more, rest_on}
use Rattle.audit_recording.proofs.session.notes.Notes.lose.Goals as goal

pub loop-frame-init : goal.loop-frame-init
loop-frame-init c = record {
  so_far = λ s are. begins GivesUp c.args.self.now c.args.frames.now s are;
  clock = refl;
  fault = refl;
}

pub loop-frame-preserved : goal.loop-frame-preserved
loop-frame-preserved c =
    let frames = c.args.frames.now in
    let i = c.loop-frame.frame-index in
    let below : i < length frames = omega arith in
    record {
      so_far = λ s are.
          one_more GivesUp c.loop-frame.self (record c.loop-frame.self { kinds = record c.loop-frame.self.kinds { lost = c.add.new.self }; losses = c.give_up.new.self }) (drop i frames) (drop (i + 1) frames) frames (get_or frames i 0) s (rest_on (λ r. r) frames i below)
          (λ more was. record {
            losses = c.in_ok-give_up.ensures more.events was.losses;
            frames = was.frames;
            discards = was.discards;
            clock = was.clock;
            kinds = more_lost c.loop-frame.self.kinds c.add.new.self (told_in more) (get_or frames i 0 ∷ lost_frames more.events) was.kinds (c.in_ok-add.ensures (lost_frames more.events) was.kinds.lost);
            behind = was.behind;
            begun = was.begun;
            asked = was.asked;
          })
          (c.loop-frame.invariant.so_far s are);
      clock = c.loop-frame.invariant.clock;
      fault = c.loop-frame.invariant.fault;
    }

pub returns-clause-stands : goal.returns-clause-stands
returns-clause-stands c = λ s are. ends GivesUp c.loop-frame.self _ c.args.frames.now s (drop_all c.loop-frame.frame-index c.args.frames.now (omega arith)) (c.loop-frame.invariant.so_far s are)
