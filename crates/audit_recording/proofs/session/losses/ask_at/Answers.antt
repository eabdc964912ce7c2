use Rattle.std.proofs.Common.{Some, sym, ap, is_some}
use Rattle.audit_recording.specs.Losses.Kept.{HasAskedIn}
use Rattle.audit_recording.proofs.LossesLemmas.Changing.{asked_first, begun, changed}
use Rattle.audit_recording.proofs.session.losses.ask_at.Goals as goal

pub returns-in-Some : goal.returns-in-Some
returns-in-Some c = changed c.args.hosts.now (c.get_mut.follows.lender c.ask.new.self) c.args.host c.key_of-key.result (λ old new. HasAskedIn old new c.args.frame) (Some c.in-Some.losses.now) c.ask.new.self c.key_of-key.ensures (sym c.in-Some.ensures.value) ((c.get_mut.follows.holds c.ask.new.self).3 (ap is_some (sym c.in-Some.ensures.value))).0 c.ask.ensures

pub returns-in_ok-insert-in-None : goal.returns-in_ok-insert-in-None
returns-in_ok-insert-in-None c =
    begun c.args.hosts.now c.insert.new.self c.args.host c.key_of-key.result (λ old new. HasAskedIn old new c.args.frame) c.ask-in-None.new.self c.get_mut.follows.holds-at-none c.key_of-key.ensures (sym c.in-None.ensures.value)
    c.in_ok-insert-in-None.ensures.updates.0
    (asked_first c.new-losses.result c.ask-in-None.new.self c.args.frame c.new-losses.ensures.lost c.new-losses.ensures.waits c.ask-in-None.ensures)
