use Rattle.std.proofs.Common.{◌∷◌, Option, sym, subst}
use Rattle.net_udp.specs.Recording.{Knows}
use Rattle.net_udp.specs.declared.recording.sent.Sent.{Sent}
use Rattle.net_udp.proofs.RecordingLemmas.Discarding.{knows_nothing_new}
use Rattle.net_udp.proofs.recording.senders.Senders.note.Goals as goal

pub returns-in-None-clause-knows : goal.returns-in-None-clause-knows
returns-in-None-clause-knows c = λ before knows. subst (λ (s : Option Sent). Knows c.args.self.now (s ∷ before)) (sym c.in-None.is) (knows_nothing_new c.args.self.now before knows)
