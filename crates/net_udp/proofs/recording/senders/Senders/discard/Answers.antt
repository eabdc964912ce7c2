use Rattle.std.proofs.Common.{Option, MatchBool, sym, subst}
use Rattle.net_udp.specs.Recording.{IsDiscarded}
use Rattle.net_udp.specs.declared.recording.sent.Sent.{Sent}
use Rattle.net_udp.proofs.RecordingLemmas.Discarding.{discards}
use Rattle.net_udp.proofs.recording.senders.Senders.discard.Goals as goal

pub returns-in-Some : goal.returns-in-Some
returns-in-Some c = λ before knows.
    subst (λ (s : Option Sent). MatchBool c.discarded_by.result (IsDiscarded before s) (IsDiscarded before s → ⊥)) (sym c.in-Some.is)
    (discards c.args.self.now c.in-Some.sent c.maker_of.result c.discarded_by.result before c.maker_of.ensures c.discarded_by.ensures knows)
