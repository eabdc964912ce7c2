use Rattle.std.proofs.Common.{◌<◌, ◌+◌, ◌∷◌, ◌∙◌, [], drop, get_or, length, arith, refl, ap}
use Rattle.std.proofs.lemmas.List.{drop_all}
use Rattle.audit_recording.specs.Losses.Noted.Event.{GivesUp}
use Rattle.audit_recording.specs.Session.Noted.{others}
use Rattle.audit_recording.proofs.SessionLemmas.Noting.{begins, ends, others_one, rest_on, several_more}
use Rattle.audit_recording.proofs.session.notes.Notes.lose_others.Goals as goal

pub loop-other-init : goal.loop-other-init
loop-other-init c = record {
  so_far = λ s are. begins GivesUp c.args.self.now (others c.args.frame c.args.frames.now) s are;
  clock = refl;
  fault = refl;
}

pub loop-other-preserved : goal.loop-other-preserved
loop-other-preserved c =
    let frames = c.args.frames.now in
    let frame = c.args.frame in
    let i = c.loop-other.other-index in
    let below : i < length frames = omega arith in
    let one = get_or frames i 0 in
    record {
      so_far = λ s are.
          several_more GivesUp c.loop-other.self _ (others frame (drop i frames)) (others frame (one ∷ [])) (others frame (drop (i + 1) frames)) (others frame frames) s
          (rest_on (others frame) frames i below ∙ others_one frame one (drop (i + 1) frames))
          (λ more was. c.in_ok-lose_other.ensures.stands more was)
          (c.loop-other.invariant.so_far s are);
      clock = c.in_ok-lose_other.ensures.clock ∙ c.loop-other.invariant.clock;
      fault = c.in_ok-lose_other.ensures.fault ∙ c.loop-other.invariant.fault;
    }

pub returns-clause-stands : goal.returns-clause-stands
returns-clause-stands c = λ s are. ends GivesUp c.loop-other.self (others c.args.frame (drop c.loop-other.other-index c.args.frames.now)) (others c.args.frame c.args.frames.now) s
    (ap (others c.args.frame) (drop_all c.loop-other.other-index c.args.frames.now (omega arith))) (c.loop-other.invariant.so_far s are)
