use Rattle.std.proofs.Common.{ℕ, List}
use Rattle.net_udp.specs.Recording.{Step}
use Rattle.audit_recording.specs.Blame.Frames.{Carried}
use Rattle.audit_recording.specs.Session.Kept.{IsSessionAfter}
use Rattle.audit_recording.specs.Session.Noted.{Noticed}
use Rattle.audit_recording.specs.Session.Over.{IsOldestOver}
use Rattle.tftp_rows.specs.Telling.{JudgesAs, TellsTurns}
use Rattle.tftp_rows.proofs.teller.Teller.tell_over.Given as goal

abbrev pub invariant-loop : goal.invariant-loop
invariant-loop g l = record {
  turns : (named out : List ℕ) (history : List Step) (carried : List Carried) (s : Noticed) → IsSessionAfter l.initial.session named out history carried s
      → TellsTurns g.W.Write.contents (λ before. IsOldestOver before named carried s × JudgesAs l.initial.session before) l.initial.self l.self l.session named out history carried s;
  judging : JudgesAs l.initial.session l.session;
}
