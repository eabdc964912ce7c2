use Rattle.std.proofs.Common.{◌≡◌, ◌≤◌, ℕ, List}
use Rattle.net_udp.specs.Recording.{Step}
use Rattle.audit_recording.specs.Blame.Frames.{Carried}
use Rattle.audit_recording.specs.Session.Kept.{IsSessionOf}
use Rattle.audit_recording.specs.Session.Noted.{Noticed}
use Rattle.tftp_rows.specs.Listed.{ListsTurns}
use Rattle.tftp_rows.proofs.lister.Lister.list_all.Given as goal

abbrev pub invariant-loop-turn : goal.invariant-loop-turn
invariant-loop-turn g l = record {
  turns : (named out : List ℕ) (history : List Step) (carried : List Carried) (s : Noticed) → IsSessionOf l.initial.session named out history carried s
      → ListsTurns g.W.Write.contents (λ before. Unit {0}) l.initial.self l.self l.session named out history carried s;
  notes : l.session.notes ≡ l.initial.session.notes;
  count : l._turn ≤ l.self.told;
}
