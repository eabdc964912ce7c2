use Rattle.std.proofs.Common.{rules, Err, ◌≡◌, ◌≢◌, ◌≤◌, ◌⊎◌, inl, inr, refl, sym, subst, ◌∙◌, arith}
use Rattle.std.proofs.lemmas.Result.{err_from_is_err_and}
use Rattle.tftp_packet.specs.{Data}
use Rattle.law_model.specs.Rules.{FirstEndBroken}
use Rattle.law_model.specs.{BlockSkipped, GoneBack}
use Rattle.tftp_ends.specs.{IsSenderAfter, IsFound, NoneBroken}
use Rattle.tftp_ends.proofs.AfterSender.{sent_usable, sent_unusable}
use Rattle.tftp_ends.proofs.FirstRules.{found_broken}
use Rattle.tftp_ends.proofs.SenderRules.{acked_held, known, skipped, gone_back, refused, nothing_broken, below_it}
use Rattle.tftp_ends.proofs.SoundStates.{sound_sent}
use Rattle.tftp_ends.proofs.sender_state.SenderState.pass_data.Goals.{else-self-eq1-via-then-self-eq1+else-number-top, else-self-eq1-via-else-self-eq1}
use Rattle.tftp_ends.proofs.sender_state.SenderState.pass_data.Goals as goal

pub returns-in_err-may_open-clause-found : goal.returns-in_err-may_open-clause-found
returns-in_err-may_open-clause-found g c = λ passed.
    subst (λ s. IsSenderAfter s passed → IsFound s.terms passed (Data c.args.number c.args.bytes.now) c.from_residual.result) c.self.view_is
    (λ after. found_broken c.self.inside.terms passed (Data c.args.number c.args.bytes.now) _ c.from_residual.result (err_from_is_err_and c.from_residual.result c.from_residual.ensures.1)
    (c.in_err-may_open.ensures.first passed c.args.bytes.now (known _ c.self.invariant.0 passed after) refl))

pub returns-then-from-clause-found : goal.returns-then-from-clause-found
returns-then-from-clause-found g c = λ passed.
    subst (λ s. IsSenderAfter s passed → FirstEndBroken s.terms passed (Data c.args.number c.args.bytes.now) BlockSkipped) c.self.view_is
    (λ after. skipped _ c.self.invariant.0 passed after c.args.number c.args.bytes.now c.highest-top.result c.highest-top.ensures.highest
    (c.in_ok-may_open.ensures.lawful passed c.args.bytes.now (known _ c.self.invariant.0 passed after) refl)
    (let far = c.if-from.true in let x = c.from.ensures in let y = c.from-2.ensures in omega arith))

pub returns-then-number-top-clause-found : goal.returns-then-number-top-clause-found
returns-then-number-top-clause-found g c = λ passed.
    subst (λ s. IsSenderAfter s passed → FirstEndBroken s.terms passed (Data c.args.number c.args.bytes.now) GoneBack) c.self.view_is
    (λ after. gone_back _ c.self.invariant.0 passed after c.args.number c.args.bytes.now c.highest-top.result c.highest-top.ensures.highest
    (c.in_ok-may_open.ensures.lawful passed c.args.bytes.now (known _ c.self.invariant.0 passed after) refl)
    (let near = c.if-from.false in let x = c.from.ensures in let y = c.from-2.ensures in omega arith) c.if-self-eq1.true c.if-number-top.true)

pub may_open-requires-clause-taken : goal.may_open-requires-clause-taken
may_open-requires-clause-taken g c = acked_held _ c.self.invariant.0

pub returns-in_err-hold_block-clause-found : goal.returns-in_err-hold_block-clause-found
returns-in_err-hold_block-clause-found g c = λ passed.
    let either : (c.self.inside.terms.windowsize ≢ 1) ⊎ (c.highest-top.result ≤ c.args.number) = elim c.else-self-eq1.branch [
      | else-self-eq1-via-then-self-eq1+else-number-top w ↦ inr w.if-number-top.false
      | else-self-eq1-via-else-self-eq1 w ↦ inl w.if-self-eq1.false
    ] in
    let same : Err c.in_err-hold_block.field-0.0 ≡ c.from_residual-in_err-hold_block.result = search rules in
    subst (λ s. IsSenderAfter s passed → IsFound s.terms passed (Data c.args.number c.args.bytes.now) c.from_residual-in_err-hold_block.result) c.self.view_is
    (λ after. subst (IsFound c.self.inside.terms passed (Data c.args.number c.args.bytes.now)) same
    (refused _ c.self.invariant.0 passed after c.args.number c.args.bytes.now c.highest-top.result c.highest-top.ensures.highest (c.in_ok-may_open.ensures.lawful passed c.args.bytes.now (known _ c.self.invariant.0 passed after) refl)
    (let near = c.if-from.false in let x = c.from.ensures in let y = c.from-2.ensures in omega arith) either c.in_err-hold_block.field-0.0 c.in_err-hold_block.ensures.refused))

pub invariant_of-self-then-not-self : goal.invariant_of-self-then-not-self
invariant_of-self-then-not-self g c =
    let small = c.in_ok-may_open.ensures.low in (
      sound_sent _ _ c.args.number _ c.args.bytes.now _ c.self.invariant.0 c.in_ok-may_open.ensures.takes.from_one (omega arith) c.in_ok-may_open.ensures.sized
          (below_it _ c.self.invariant.0 c.args.number c.highest-top.result c.highest-top.ensures.highest (let near = c.if-from.false in let x = c.from.ensures in let y = c.from-2.ensures in omega arith))
          c.in_ok-hold_block.ensures.ok.1 c.in_ok-hold_block.ensures.same (inr c.max-self-inside.ensures),
      c.in_ok-hold_block.ensures.block_size ∙ c.self.invariant.1,
      c.in_ok-hold_block.ensures.window ∙ c.self.invariant.2,
    )

pub invariant_of-self-else-not-self : goal.invariant_of-self-else-not-self
invariant_of-self-else-not-self g c =
    let small = c.in_ok-may_open.ensures.low in (
      sound_sent _ _ c.args.number _ c.args.bytes.now _ c.self.invariant.0 c.in_ok-may_open.ensures.takes.from_one (omega arith) c.in_ok-may_open.ensures.sized
          (below_it _ c.self.invariant.0 c.args.number c.highest-top.result c.highest-top.ensures.highest (let near = c.if-from.false in let x = c.from.ensures in let y = c.from-2.ensures in omega arith))
          c.in_ok-hold_block.ensures.ok.1 c.in_ok-hold_block.ensures.same (inl refl),
      c.in_ok-hold_block.ensures.block_size ∙ c.self.invariant.1,
      c.in_ok-hold_block.ensures.window ∙ c.self.invariant.2,
    )

pub returns-then-not-self-clause-found : goal.returns-then-not-self-clause-found
returns-then-not-self-clause-found g c = λ passed.
    let either : (c.self.inside.terms.windowsize ≢ 1) ⊎ (c.highest-top.result ≤ c.args.number) = elim c.else-self-eq1.branch [
      | else-self-eq1-via-then-self-eq1+else-number-top w ↦ inr w.if-number-top.false
      | else-self-eq1-via-else-self-eq1 w ↦ inl w.if-self-eq1.false
    ] in
    subst (λ s. IsSenderAfter s passed → NoneBroken s.terms passed (Data c.args.number c.args.bytes.now)) c.self.view_is
    (λ after. nothing_broken _ c.self.invariant.0 passed after c.args.number c.args.bytes.now c.highest-top.result c.highest-top.ensures.highest (c.in_ok-may_open.ensures.lawful passed c.args.bytes.now (known _ c.self.invariant.0 passed after) refl)
    (let near = c.if-from.false in let x = c.from.ensures in let y = c.from-2.ensures in omega arith) either c.in_ok-hold_block.ensures.same)

pub returns-else-not-self-clause-found : goal.returns-else-not-self-clause-found
returns-else-not-self-clause-found g c = λ passed.
    let either : (c.self.inside.terms.windowsize ≢ 1) ⊎ (c.highest-top.result ≤ c.args.number) = elim c.else-self-eq1.branch [
      | else-self-eq1-via-then-self-eq1+else-number-top w ↦ inr w.if-number-top.false
      | else-self-eq1-via-else-self-eq1 w ↦ inl w.if-self-eq1.false
    ] in
    subst (λ s. IsSenderAfter s passed → NoneBroken s.terms passed (Data c.args.number c.args.bytes.now)) c.self.view_is
    (λ after. nothing_broken _ c.self.invariant.0 passed after c.args.number c.args.bytes.now c.highest-top.result c.highest-top.ensures.highest (c.in_ok-may_open.ensures.lawful passed c.args.bytes.now (known _ c.self.invariant.0 passed after) refl)
    (let near = c.if-from.false in let x = c.from.ensures in let y = c.from-2.ensures in omega arith) either c.in_ok-hold_block.ensures.same)

pub returns-then-not-self-clause-after : goal.returns-then-not-self-clause-after
returns-then-not-self-clause-after g c = λ passed d after says.
    sent_usable _ passed (subst (λ s. IsSenderAfter s passed) (sym c.self.view_is) after) d c.args.number c.args.bytes.now says _ _ _ c.in_ok-hold_block.ensures.ok.1 c.in_ok-hold_block.ensures.same c.if-not-self.true c.max-self-inside.ensures

pub returns-else-not-self-clause-after : goal.returns-else-not-self-clause-after
returns-else-not-self-clause-after g c = λ passed d after says.
    sent_unusable _ passed (subst (λ s. IsSenderAfter s passed) (sym c.self.view_is) after) d c.args.number c.args.bytes.now says _ _ c.in_ok-hold_block.ensures.ok.1 c.in_ok-hold_block.ensures.same c.if-not-self.false
