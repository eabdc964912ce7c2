use Rattle.std.proofs.Common.{◌≡◌, length}
use Rattle.audit_recording.specs.Losses.Noted.Event.{GivesUp}
use Rattle.audit_recording.specs.Session.Noted.{AreNotesOf, Noticed, frames_in}
use Rattle.audit_recording.proofs.SessionLemmas.Noting.{IsSoFar}
use Rattle.audit_recording.proofs.session.notes.Notes.lose_all.Given as goal

-- the frames so far are noted, and the fault stands
abbrev pub invariant-loop-frames : goal.invariant-loop-frames
invariant-loop-frames l = record {
  so_far : (s : Noticed) → AreNotesOf l.fn.self s → IsSoFar GivesUp l.self (frames_in l.fragments) (frames_in l.fn.fragments) s;
  fault : l.self.fault ≡ l.fn.self.fault;
}

abbrev pub decreases-loop-frames : goal.decreases-loop-frames
decreases-loop-frames l = length l.fragments
