use Rattle.std.proofs.Common.{◌≡◌, false, true}
use Rattle.audit_recording.proofs.LossesLemmas.Waiting.{nothing_at}
use Rattle.audit_recording.proofs.session.host_losses.HostLosses.is_waiting.Goals as goal

pub returns-in-Some : goal.returns-in-Some
returns-in-Some c = (_, _, c.in-Some.ensures.value)

pub returns-in-None : goal.returns-in-None
returns-in-None c = λ n. nothing_at c.args.self.now.waiting n (λ some. let no : false ≡ true = c.in-None.ensures.variant.1 some in absurd (cc))
