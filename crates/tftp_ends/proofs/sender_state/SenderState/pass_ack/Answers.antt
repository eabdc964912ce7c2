use Rattle.std.proofs.Common.{List, subst, sym, inl, inr, refl}
use Rattle.tftp_packet.specs.{Ack}
use Rattle.tftp_packet.specs.Hosts.{Datagram}
use Rattle.law_model.specs.Rules.{FirstEndBroken, usable}
use Rattle.law_model.specs.{AckAhead, AckZero}
use Rattle.tftp_ends.specs.{IsSenderAfter, NoneBroken}
use Rattle.tftp_ends.proofs.AfterSender.{got}
use Rattle.tftp_ends.proofs.FirstRules.{refute, above_zero, both}
use Rattle.tftp_ends.proofs.SenderRules.{any_block, ahead, zero_waits, ack_lawful}
use Rattle.tftp_ends.proofs.sender_state.SenderState.pass_ack.Given.{Over}
use Rattle.tftp_ends.proofs.sender_state.SenderState.pass_ack.Goals.{Joined-else-number-eq0, else-number-eq0-via-then-number-eq0+else-ack_zero_waits, else-number-eq0-via-else-number-eq0}
use Rattle.tftp_ends.proofs.sender_state.SenderState.pass_ack.Goals as goal

pub returns-then-self-number-clause-first : goal.returns-then-self-number-clause-first
returns-then-self-number-clause-first g c = λ passed.
    subst (λ s. IsSenderAfter s passed → FirstEndBroken s.terms passed (Ack c.args.number) AckAhead) c.self.view_is
    (λ after. ahead _ c.self.invariant.0 passed after c.args.number c.if-self-number.true)

pub returns-then-ack_zero_waits-clause-first : goal.returns-then-ack_zero_waits-clause-first
returns-then-ack_zero_waits-clause-first g c = λ passed.
    subst (λ s. IsSenderAfter s passed → FirstEndBroken s.terms passed (Ack c.args.number) AckZero) c.self.view_is
    (λ after. zero_waits _ c.self.invariant.0 passed after c.args.number c.if-self-number.false c.if-number-eq0.true
    ((c.ack_zero_waits.ensures (usable passed) (both (above_zero c.self.inside.usable_top) (any_block _ c.self.invariant.0 passed after))).0 c.if-ack_zero_waits.true))

pub returns-then-number-eq0-2-clause-after : goal.returns-then-number-eq0-2-clause-after
returns-then-number-eq0-2-clause-after g c = λ passed d after says. got _ passed d c.args.number _ _ (subst (λ s. IsSenderAfter s passed) (sym c.self.view_is) after) says c.max-self-inside.ensures (inl (c.if-number-eq0-2.true, refl))

pub returns-else-number-eq0-2-clause-after : goal.returns-else-number-eq0-2-clause-after
returns-else-number-eq0-2-clause-after g c = λ passed d after says. got _ passed d c.args.number _ _ (subst (λ s. IsSenderAfter s passed) (sym c.self.view_is) after) says c.max-self-inside.ensures (inr (c.if-number-eq0-2.false, refl))

-- the ACK is no 0 that has nothing to answer
not_zero : (g : Over) (c : Joined-else-number-eq0 g) (passed : List Datagram) → IsSenderAfter c.args.self.now passed → NoneBroken c.args.self.now.terms passed (Ack c.args.number)
not_zero g c passed =
    subst (λ s. IsSenderAfter s passed → NoneBroken s.terms passed (Ack c.args.number)) c.self.view_is
    (λ after. ack_lawful _ c.self.invariant.0 passed after c.args.number c.if-self-number.false (elim c.else-number-eq0.branch [
      | else-number-eq0-via-then-number-eq0+else-ack_zero_waits w ↦ λ b. refute _ w.if-ack_zero_waits.false
          (w.ack_zero_waits.ensures (usable passed) (both (above_zero c.self.inside.usable_top) (any_block _ c.self.invariant.0 passed after))) b.1
      | else-number-eq0-via-else-number-eq0 w ↦ λ b. w.if-number-eq0.false b.0
    ]))

pub returns-then-number-eq0-2-clause-lawful : goal.returns-then-number-eq0-2-clause-lawful
returns-then-number-eq0-2-clause-lawful g c = not_zero g (goal.at.returns-then-number-eq0-2-clause-lawful g c).Joined-else-number-eq0

pub returns-else-number-eq0-2-clause-lawful : goal.returns-else-number-eq0-2-clause-lawful
returns-else-number-eq0-2-clause-lawful g c = not_zero g (goal.at.returns-else-number-eq0-2-clause-lawful g c).Joined-else-number-eq0
