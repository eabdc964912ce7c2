use Rattle.std.proofs.Common.{List, subst, sym, inl, inr, refl}
use Rattle.tftp_packet.specs.{Ack}
use Rattle.tftp_packet.specs.Hosts.{Datagram}
use Rattle.law_model.specs.Rules.{FirstEndBroken, usable}
use Rattle.law_model.specs.{AckAhead, AckZero}
use Rattle.tftp_ends.specs.{IsReceiverAfter, NoneBroken}
use Rattle.tftp_ends.proofs.AfterReceiver.{sent_usable, sent_unusable}
use Rattle.tftp_ends.proofs.FirstRules.{refute, above_zero, both}
use Rattle.tftp_ends.proofs.ReceiverRules.{any_block, ahead, zero_waits, ack_lawful}
use Rattle.tftp_ends.proofs.SoundStates.{sound_acked}
use Rattle.tftp_ends.proofs.receiver_state.ReceiverState.pass_ack.Given.{Over}
use Rattle.tftp_ends.proofs.receiver_state.ReceiverState.pass_ack.Goals.{Joined-else-number-eq0, else-number-eq0-via-then-number-eq0+else-ack_zero_waits, else-number-eq0-via-else-number-eq0}
use Rattle.tftp_ends.proofs.receiver_state.ReceiverState.pass_ack.Goals as goal

pub returns-then-front-number-clause-first : goal.returns-then-front-number-clause-first
returns-then-front-number-clause-first g c = λ passed.
    subst (λ r. IsReceiverAfter r passed → FirstEndBroken r.terms passed (Ack c.args.number) AckAhead) c.self.view_is
    (λ after. ahead _ c.self.invariant.0 passed after c.args.number c.front.result c.front.ensures c.if-front-number.true)

pub returns-then-ack_zero_waits-clause-first : goal.returns-then-ack_zero_waits-clause-first
returns-then-ack_zero_waits-clause-first g c = λ passed.
    subst (λ r. IsReceiverAfter r passed → FirstEndBroken r.terms passed (Ack c.args.number) AckZero) c.self.view_is
    (λ after. zero_waits _ c.self.invariant.0 passed after c.args.number c.front.result c.front.ensures c.if-front-number.false c.if-number-eq0.true
    ((c.ack_zero_waits.ensures (usable passed) (both (above_zero c.highest.result) (any_block _ c.self.invariant.0 passed after c.highest.result c.highest.ensures.highest))).0 c.if-ack_zero_waits.true))

pub invariant_of-self : goal.invariant_of-self
invariant_of-self g c = (sound_acked _ c.args.number _ _ _ c.self.invariant.0 c.front.result c.front.ensures c.if-front-number.false c.max-self-inside.ensures (inl refl), c.self.invariant.1, c.self.invariant.2)

pub invariant_of-self-then-number-eq0-2 : goal.invariant_of-self-then-number-eq0-2
invariant_of-self-then-number-eq0-2 g c = (sound_acked _ c.args.number _ _ _ c.self.invariant.0 c.front.result c.front.ensures c.if-front-number.false c.max-self-inside.ensures (inr c.max-self-inside-2.ensures), c.self.invariant.1, c.self.invariant.2)

pub invariant_of-self-else-number-eq0-2 : goal.invariant_of-self-else-number-eq0-2
invariant_of-self-else-number-eq0-2 g c = (sound_acked _ c.args.number _ _ _ c.self.invariant.0 c.front.result c.front.ensures c.if-front-number.false c.max-self-inside.ensures (inr c.max-self-inside-2.ensures), c.self.invariant.1, c.self.invariant.2)

-- the ACK is no 0 that has nothing to answer
not_zero : (g : Over) (c : Joined-else-number-eq0 g) (passed : List Datagram) → IsReceiverAfter c.args.self.now passed → NoneBroken c.args.self.now.terms passed (Ack c.args.number)
not_zero g c passed =
    subst (λ r. IsReceiverAfter r passed → NoneBroken r.terms passed (Ack c.args.number)) c.self.view_is
    (λ after. ack_lawful _ c.self.invariant.0 passed after c.args.number c.front.result c.front.ensures c.if-front-number.false (elim c.else-number-eq0.branch [
      | else-number-eq0-via-then-number-eq0+else-ack_zero_waits w ↦ λ b. refute _ w.if-ack_zero_waits.false
          (w.ack_zero_waits.ensures (usable passed) (both (above_zero w.highest.result) (any_block _ c.self.invariant.0 passed after w.highest.result w.highest.ensures.highest))) b.1
      | else-number-eq0-via-else-number-eq0 w ↦ λ b. w.if-number-eq0.false b.0
    ]))

pub returns-then-self-clause-lawful : goal.returns-then-self-clause-lawful
returns-then-self-clause-lawful g c = not_zero g (goal.at.returns-then-self-clause-lawful g c).Joined-else-number-eq0

pub returns-then-number-eq0-2-clause-lawful : goal.returns-then-number-eq0-2-clause-lawful
returns-then-number-eq0-2-clause-lawful g c = not_zero g (goal.at.returns-then-number-eq0-2-clause-lawful g c).Joined-else-number-eq0

pub returns-else-number-eq0-2-clause-lawful : goal.returns-else-number-eq0-2-clause-lawful
returns-else-number-eq0-2-clause-lawful g c = not_zero g (goal.at.returns-else-number-eq0-2-clause-lawful g c).Joined-else-number-eq0

pub returns-then-self-clause-after : goal.returns-then-self-clause-after
returns-then-self-clause-after g c = λ passed d after says. sent_unusable _ passed (subst (λ r. IsReceiverAfter r passed) (sym c.self.view_is) after) d c.args.number says _ c.max-self-inside.ensures c.if-self.true

pub returns-then-number-eq0-2-clause-after : goal.returns-then-number-eq0-2-clause-after
returns-then-number-eq0-2-clause-after g c = λ passed d after says.
    sent_usable _ passed (subst (λ r. IsReceiverAfter r passed) (sym c.self.view_is) after) d c.args.number says _ _ _ c.max-self-inside.ensures c.max-self-inside-2.ensures c.if-self.false (inl (c.if-number-eq0-2.true, refl))

pub returns-else-number-eq0-2-clause-after : goal.returns-else-number-eq0-2-clause-after
returns-else-number-eq0-2-clause-after g c = λ passed d after says.
    sent_usable _ passed (subst (λ r. IsReceiverAfter r passed) (sym c.self.view_is) after) d c.args.number says _ _ _ c.max-self-inside.ensures c.max-self-inside-2.ensures c.if-self.false (inr (c.if-number-eq0-2.false, refl))
