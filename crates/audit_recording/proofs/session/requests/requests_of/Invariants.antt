use Rattle.std.proofs.Common.{◌≤◌, [], ℕ, List, length}
use Rattle.net_udp.specs.Recording.{Step}
use Rattle.audit_recording.specs.Blame.Frames.{Carried}
use Rattle.audit_recording.specs.Session.Kept.{IsSessionOf}
use Rattle.audit_recording.specs.Session.Noted.{Noticed}
use Rattle.audit_recording.proofs.SessionLemmas.Requesting.{AreFirst}
use Rattle.audit_recording.proofs.session.requests.requests_of.Given as goal

-- those of the first keys were put
abbrev pub invariant-loop-place : goal.invariant-loop-place
invariant-loop-place l =
    (l.place ≤ length l.keys.items)
    × ((named : List ℕ) (history : List Step) (carried : List Carried) (s : Noticed) → IsSessionOf l.session named [] history carried s → AreFirst named carried l.place l.asked.items)
