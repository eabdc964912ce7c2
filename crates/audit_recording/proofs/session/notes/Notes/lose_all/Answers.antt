use Rattle.std.proofs.Common.{◌++◌, List, ℕ, ap, refl, sym, ◌∙◌}
use Rattle.audit_recording.specs.Losses.Noted.Event.{GivesUp}
use Rattle.audit_recording.specs.Session.Noted.{frames_in}
use Rattle.audit_recording.proofs.SessionLemmas.Noting.{begins, several_more}
use Rattle.audit_recording.proofs.session.notes.Notes.lose_all.Goals as goal

pub loop-frames-init : goal.loop-frames-init
loop-frames-init c = record {
  so_far = λ s are. begins GivesUp c.args.self.now (frames_in c.args.fragments) s are;
  fault = refl;
}

pub loop-frames-preserved : goal.loop-frames-preserved
loop-frames-preserved c = record {
  so_far = λ s are.
      several_more GivesUp c.loop-frames.self c.lose.new.self (frames_in c.loop-frames.fragments) c.as_slice.result.now (frames_in c.let_go_any.new.self) (frames_in c.args.fragments) s
      (ap frames_in c.in-Some.ensures.1 ∙ ap (λ (l : List ℕ). l ++ frames_in c.let_go_any.new.self) (sym (c.as_slice.ensures.value ∙ c.in-Some.ensures.2)))
      (λ more was. c.in_ok-lose.ensures.stands more was)
      (c.loop-frames.invariant.so_far s are);
  fault = c.in_ok-lose.ensures.fault ∙ c.loop-frames.invariant.fault;
}
