use Rattle.std.proofs.Common.{◌<◌, ◌+◌, ◌∷◌, drop, get_or, length, arith, refl, subst}
use Rattle.std.proofs.lemmas.List.{drop_all}
use Rattle.audit_recording.specs.Losses.Noted.Event.{Finds}
use Rattle.audit_recording.specs.Losses.Kept.{AreLosses}
use Rattle.audit_recording.proofs.SessionLemmas.Noting.{begins, ends, one_more, rest_on}
use Rattle.audit_recording.proofs.session.notes.Notes.find.Goals as goal

pub loop-frame-init : goal.loop-frame-init
loop-frame-init c = record {
  so_far = λ s are. begins (λ n. Finds n c.args.self.now.clock.reached) c.args.self.now c.args.frames.now s are;
  clock = refl;
  fault = refl;
}

pub loop-frame-preserved : goal.loop-frame-preserved
loop-frame-preserved c =
    let frames = c.args.frames.now in
    let i = c.loop-frame.frame-index in
    let below : i < length frames = omega arith in
    record {
      so_far = λ s are.
          one_more (λ n. Finds n c.args.self.now.clock.reached) c.loop-frame.self (record c.loop-frame.self { losses = c.find.new.self }) (drop i frames) (drop (i + 1) frames) frames (get_or frames i 0) s (rest_on (λ r. r) frames i below)
          (λ more was. record {
            losses = subst (λ clock. AreLosses c.find.new.self (Finds (get_or frames i 0) clock ∷ more.events)) (λ j. (c.loop-frame.invariant.clock j).reached) (c.in_ok-find.ensures more.events was.losses);
            frames = was.frames;
            discards = was.discards;
            clock = was.clock;
            kinds = was.kinds;
            behind = was.behind;
            begun = was.begun;
            asked = was.asked;
          })
          (c.loop-frame.invariant.so_far s are);
      clock = c.loop-frame.invariant.clock;
      fault = c.loop-frame.invariant.fault;
    }

pub returns-clause-stands : goal.returns-clause-stands
returns-clause-stands c = λ s are. ends (λ n. Finds n c.args.self.now.clock.reached) c.loop-frame.self _ c.args.frames.now s (drop_all c.loop-frame.frame-index c.args.frames.now (omega arith)) (c.loop-frame.invariant.so_far s are)
