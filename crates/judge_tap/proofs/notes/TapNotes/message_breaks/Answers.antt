use Rattle.std.proofs.Common.{None, sym, subst, ◌∙◌}
use Rattle.std.proofs.lemmas.Bool.{true≢false}
use Rattle.tftp_packet.specs.{Message, meaning, Side, Packet}
use Rattle.law_end.specs.{IsWrongKind}
use Rattle.law_tap.specs.{LateBreaks}
use Rattle.judge_tap.specs.{FindsRule, IsOtherError, IsOtherRequest}
use Rattle.judge_tap.proofs.Lateness.{late_found, error_found, no_late_error, no_other_request_error, no_other_error_ack, no_other_request_ack}
use Rattle.judge_tap.proofs.notes.TapNotes.message_breaks.Goals as goal

pub returns-then-has_other_error : goal.returns-then-has_other_error
returns-then-has_other_error c = λ s passed are.
    let right : IsWrongKind c.args.end c.args.asked.now.side (meaning c.args.packet.now) → ⊥ =
    λ wrong. true≢false (sym (c.is_wrong_kind.ensures.1 (subst (λ (x : Side). IsWrongKind c.args.end x (meaning c.args.packet.now)) (sym c.side.ensures) wrong)) ∙ c.if-is_wrong_kind.false) in
    error_found s c.args.asked.now passed c.args.end (meaning c.args.packet.now) right
    (subst (λ (p : Packet). IsOtherError s passed c.args.end (meaning p)) (sym c.in-Error.is) ((c.has_other_error.ensures s passed are).0 c.if-has_other_error.true))

pub returns-else-has_other_error : goal.returns-else-has_other_error
returns-else-has_other_error c = λ s passed are.
    let right : IsWrongKind c.args.end c.args.asked.now.side (meaning c.args.packet.now) → ⊥ =
    λ wrong. true≢false (sym (c.is_wrong_kind.ensures.1 (subst (λ (x : Side). IsWrongKind c.args.end x (meaning c.args.packet.now)) (sym c.side.ensures) wrong)) ∙ c.if-is_wrong_kind.false) in
    late_found s c.args.asked.now passed c.args.end (meaning c.args.packet.now) right
    (λ other. true≢false (sym ((c.has_other_error.ensures s passed are).1 (subst (λ (p : Packet). IsOtherError s passed c.args.end (meaning p)) c.in-Error.is other)) ∙ c.if-has_other_error.false))
    (subst (λ (p : Packet). IsOtherRequest c.args.asked.now c.args.end (meaning p) → ⊥) (sym c.in-Error.is) (no_other_request_error c.args.asked.now c.args.end c.in-Error.code c.in-Error.message.now))
    None
    (subst (λ (p : Packet). FindsRule (LateBreaks s c.args.asked.now.side passed (meaning p)) None) (sym c.in-Error.is) (no_late_error s c.args.asked.now.side passed c.in-Error.code c.in-Error.message.now))

pub returns-in-Ack : goal.returns-in-Ack
returns-in-Ack c = λ s passed are.
    let right : IsWrongKind c.args.end c.args.asked.now.side (meaning c.args.packet.now) → ⊥ =
    λ wrong. true≢false (sym (c.is_wrong_kind.ensures.1 (subst (λ (x : Side). IsWrongKind c.args.end x (meaning c.args.packet.now)) (sym c.side.ensures) wrong)) ∙ c.if-is_wrong_kind.false) in
    late_found s c.args.asked.now passed c.args.end (meaning c.args.packet.now) right
    (subst (λ (p : Packet). IsOtherError s passed c.args.end (meaning p) → ⊥) (sym c.in-Ack.is) (no_other_error_ack s passed c.args.end c.in-Ack.block))
    (subst (λ (p : Packet). IsOtherRequest c.args.asked.now c.args.end (meaning p) → ⊥) (sym c.in-Ack.is) (no_other_request_ack c.args.asked.now c.args.end c.in-Ack.block))
    c.late_ack.result
    (subst (λ (p : Packet). FindsRule (LateBreaks s c.args.asked.now.side passed (meaning p)) c.late_ack.result) (sym c.in-Ack.is)
    (subst (λ (x : Side). FindsRule (LateBreaks s x passed (Message.Ack c.in-Ack.block)) c.late_ack.result) c.side-in-Ack.ensures (c.late_ack.ensures s passed are)))
