use Rattle.std.proofs.Common.{Some, sym, ap, is_some}
use Rattle.audit_recording.specs.Losses.Kept.{HasLost}
use Rattle.audit_recording.proofs.LossesLemmas.Changing.{begun, changed, lost_first, on_ok}
use Rattle.audit_recording.proofs.session.losses.lose_at.Goals as goal

pub returns-in-Some : goal.returns-in-Some
returns-in-Some c = on_ok c.lose.result (λ how. changed c.args.hosts.now (c.get_mut.follows.lender c.lose.new.self) c.args.host c.key_of-key.result (λ old new. HasLost old new c.args.frame c.args.time) (Some c.in-Some.losses.now) c.lose.new.self c.key_of-key.ensures (sym c.in-Some.ensures.value) ((c.get_mut.follows.holds c.lose.new.self).3 (ap is_some (sym c.in-Some.ensures.value))).0 how) c.lose.ensures

pub returns-in_ok-insert-in-None : goal.returns-in_ok-insert-in-None
returns-in_ok-insert-in-None c =
    begun c.args.hosts.now c.insert.new.self c.args.host c.key_of-key.result (λ old new. HasLost old new c.args.frame c.args.time) c.lose-in-None.new.self c.get_mut.follows.holds-at-none c.key_of-key.ensures (sym c.in-None.ensures.value)
    c.in_ok-insert-in-None.ensures.updates.0
    (lost_first c.new-losses.result c.lose-in-None.new.self c.args.frame c.args.time c.new-losses.ensures.lost c.new-losses.ensures.waits c.new-losses.ensures.asked c.in_ok-lose-in-None.ensures)
