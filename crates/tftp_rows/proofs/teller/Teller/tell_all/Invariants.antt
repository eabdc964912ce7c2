use Rattle.std.proofs.Common.{◌≡◌, ◌≤◌, ℕ, List}
use Rattle.net_udp.specs.Recording.{Step}
use Rattle.audit_recording.specs.Blame.Frames.{Carried}
use Rattle.audit_recording.specs.Session.Kept.{IsSessionOf}
use Rattle.audit_recording.specs.Session.Noted.{Noticed}
use Rattle.tftp_rows.specs.Telling.{JudgesAs, TellsTurns}
use Rattle.tftp_rows.proofs.teller.Teller.tell_all.Given as goal

abbrev pub invariant-loop-turn : goal.invariant-loop-turn
invariant-loop-turn g l = record {
  turns : (named out : List ℕ) (history : List Step) (carried : List Carried) (s : Noticed) → IsSessionOf l.initial.session named out history carried s
      → TellsTurns g.W.Write.contents (JudgesAs l.initial.session) l.initial.self l.self l.session named out history carried s;
  judging : JudgesAs l.initial.session l.session;
  notes : l.session.notes ≡ l.initial.session.notes;
  count : l._turn ≤ l.self.told;
}
