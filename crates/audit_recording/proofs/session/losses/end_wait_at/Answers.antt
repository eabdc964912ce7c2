use Rattle.std.proofs.Common.{Some, None, sym, ap, is_some}
use Rattle.audit_recording.specs.Losses.Kept.{HasWaited}
use Rattle.audit_recording.proofs.LossesLemmas.Changing.{changed}
use Rattle.audit_recording.proofs.session.losses.end_wait_at.Goals as goal

pub returns-in-Some : goal.returns-in-Some
returns-in-Some c = changed c.args.hosts.now (c.get_mut.follows.lender c.end_wait.new.self) c.args.host c.key_of.result (λ old new. HasWaited old new c.args.frame None) (Some c.in-Some.losses.now) c.end_wait.new.self c.key_of.ensures (sym c.in-Some.ensures.value) ((c.get_mut.follows.holds c.end_wait.new.self).3 (ap is_some (sym c.in-Some.ensures.value))).0 c.end_wait.ensures
