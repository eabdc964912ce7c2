use Rattle.std.proofs.Common.{◌≡◌, drop}
use Rattle.audit_recording.specs.Losses.Noted.Event.{GivesUp}
use Rattle.audit_recording.specs.Session.Noted.{AreNotesOf, Noticed, others}
use Rattle.audit_recording.proofs.SessionLemmas.Noting.{IsSoFar}
use Rattle.audit_recording.proofs.session.notes.Notes.lose_others.Given as goal

-- the others so far are noted, and the clock and the fault stand
abbrev pub invariant-loop-other : goal.invariant-loop-other
invariant-loop-other l = record {
  so_far : (s : Noticed) → AreNotesOf l.fn.self s → IsSoFar GivesUp l.self (others l.frame (drop l.other-index l.frames)) (others l.frame l.frames) s;
  clock : l.self.clock ≡ l.fn.self.clock;
  fault : l.self.fault ≡ l.fn.self.fault;
}
