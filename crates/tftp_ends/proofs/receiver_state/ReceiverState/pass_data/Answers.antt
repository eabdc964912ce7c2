use Rattle.std.proofs.Common.{rules, Err, ◌≡◌, refl, sym, subst, ◌∙◌, arith}
use Rattle.std.proofs.lemmas.Result.{err_from_is_err_and}
use Rattle.tftp_packet.specs.{Data}
use Rattle.tftp_ends.specs.{IsReceiverAfter, IsFound, NoneBroken}
use Rattle.tftp_ends.proofs.AfterReceiver.{taken}
use Rattle.tftp_ends.proofs.FirstRules.{found_broken}
use Rattle.tftp_ends.proofs.ReceiverRules.{known, refused, nothing_broken}
use Rattle.tftp_ends.proofs.SoundStates.{sound_taken}
use Rattle.tftp_ends.proofs.receiver_state.ReceiverState.pass_data.Goals as goal

pub returns-in_err-may_open-clause-found : goal.returns-in_err-may_open-clause-found
returns-in_err-may_open-clause-found g c = λ passed.
    subst (λ r. IsReceiverAfter r passed → IsFound r.terms passed (Data c.args.number c.args.bytes.now) c.from_residual.result) c.self.view_is
    (λ after. found_broken c.self.inside.terms passed (Data c.args.number c.args.bytes.now) _ c.from_residual.result (err_from_is_err_and c.from_residual.result c.from_residual.ensures.1)
    (c.in_err-may_open.ensures.first passed c.args.bytes.now (known _ c.self.invariant.0 passed after) refl))

pub returns-in_err-hold_block-clause-found : goal.returns-in_err-hold_block-clause-found
returns-in_err-hold_block-clause-found g c = λ passed.
    let same : Err c.in_err-hold_block.field-0.0 ≡ c.from_residual-in_err-hold_block.result = search rules in
    subst (λ r. IsReceiverAfter r passed → IsFound r.terms passed (Data c.args.number c.args.bytes.now) c.from_residual-in_err-hold_block.result) c.self.view_is
    (λ after. subst (IsFound c.self.inside.terms passed (Data c.args.number c.args.bytes.now)) same
    (refused _ c.self.invariant.0 passed after c.args.number c.args.bytes.now (c.in_ok-may_open.ensures.lawful passed c.args.bytes.now (known _ c.self.invariant.0 passed after) refl) c.in_err-hold_block.field-0.0 c.in_err-hold_block.ensures.refused))

pub invariant_of-self-2 : goal.invariant_of-self-2
invariant_of-self-2 g c =
    let small = c.in_ok-may_open.ensures.low in (
      sound_taken _ _ c.args.number c.args.bytes.now _ c.self.invariant.0 c.in_ok-may_open.ensures.takes.from_one (omega arith) c.in_ok-may_open.ensures.sized c.in_ok-hold_block.ensures.ok.1 c.in_ok-hold_block.ensures.same,
      c.in_ok-hold_block.ensures.block_size ∙ c.self.invariant.1,
      c.in_ok-hold_block.ensures.window ∙ c.self.invariant.2,
    )

pub returns-clause-found : goal.returns-clause-found
returns-clause-found g c = λ passed.
    subst (λ r. IsReceiverAfter r passed → NoneBroken r.terms passed (Data c.args.number c.args.bytes.now)) c.self.view_is
    (λ after. nothing_broken _ c.self.invariant.0 passed after c.args.number c.args.bytes.now (c.in_ok-may_open.ensures.lawful passed c.args.bytes.now (known _ c.self.invariant.0 passed after) refl) c.in_ok-hold_block.ensures.same)

pub returns-clause-after : goal.returns-clause-after
returns-clause-after g c = λ passed d after says.
    taken _ passed d c.args.number c.args.bytes.now _ _ (subst (λ r. IsReceiverAfter r passed) (sym c.self.view_is) after) says c.in_ok-hold_block.ensures.ok.1 c.in_ok-hold_block.ensures.same
