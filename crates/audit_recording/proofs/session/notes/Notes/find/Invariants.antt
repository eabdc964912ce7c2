use Rattle.std.proofs.Common.{◌≡◌, drop}
use Rattle.audit_recording.specs.Losses.Noted.Event.{Finds}
use Rattle.audit_recording.specs.Session.Noted.{AreNotesOf, Noticed}
use Rattle.audit_recording.proofs.SessionLemmas.Noting.{IsSoFar}
use Rattle.audit_recording.proofs.session.notes.Notes.find.Given as goal

-- the frames so far are noted, and the clock and the fault stand
abbrev pub invariant-loop-frame : goal.invariant-loop-frame
invariant-loop-frame l = record {
  so_far : (s : Noticed) → AreNotesOf l.fn.self s → IsSoFar (λ n. Finds n l.fn.self.clock.reached) l.self (drop l.frame-index l.frames) l.frames s;
  clock : l.self.clock ≡ l.fn.self.clock;
  fault : l.self.fault ≡ l.fn.self.fault;
}
