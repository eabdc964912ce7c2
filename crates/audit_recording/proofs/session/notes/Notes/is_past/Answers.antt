use Rattle.std.proofs.Common.{arith, nat_lt, MatchBool, subst}
use Rattle.audit_recording.specs.Session.Noted.{stretch_of}
use Rattle.audit_recording.specs.Session.Over.{IsPast}
use Rattle.audit_recording.proofs.SessionLemmas.Over.{past_told}
use Rattle.audit_recording.proofs.SessionLemmas.Recording.{reached_is}
use Rattle.audit_recording.proofs.session.notes.Notes.is_past.Goals as goal

pub returns : goal.returns
returns c = λ s are.
    let w = stretch_of c.args.trail.now in
    let clock = c.args.self.now.clock in
    subst (λ m. MatchBool (nat_lt c.saturating_add.result clock.reached) (IsPast w m s.events) (IsPast w m s.events → ⊥)) (reached_is clock s.times are.clock)
    (past_told w clock.reached c.saturating_add.result c.wait_for.result s.events (c.wait_for.ensures s are) (λ less. omega arith) (λ less. omega arith))
