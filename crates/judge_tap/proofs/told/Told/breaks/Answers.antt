use Rattle.std.proofs.Common.{◌≡◌, ◌∷◌, ◌≤◌, Bool, true, not, Option, Some, List, IfSome, rules, refl, sym, subst, ◌∙◌}
use Rattle.std.proofs.lemmas.Bool.{true≢false}
use Rattle.tftp_packet.specs.{RequestParts, meaning, Packet, Side, End}
use Rattle.law_model.specs.{EndRule}
use Rattle.law_end.specs.{IsWrongKind}
use Rattle.law_end.specs.declared.rule.Rule.TheVariants as rule
use Rattle.law_tap.specs.{AreFigures, Figures, IsSaidBy, TapDatagram, TapSides, transfer_between}
use Rattle.judge_tap.specs.{AreTold, IsToldOf, Told}
use Rattle.judge_tap.proofs.ToldFound.{ack_told, block_told, error_told, request_told, wrong_told}
use Rattle.judge_tap.proofs.told.Told.breaks.Goals as goal

-- what is told of a packet, by its kind
by_kind : (s : TapSides) (earlier : List TapDatagram) (d : TapDatagram) (asked : RequestParts) (e : End) (packet p : Packet) → packet ≡ p → (answer : Option Bool)
    → (IsSaidBy s e (meaning p) d → (IsWrongKind e asked.side (meaning p) → ⊥) → IsToldOf s earlier d asked e (meaning p) answer)
    → IsSaidBy s e (meaning packet) d → (IsWrongKind e asked.side (meaning packet) → ⊥) → IsToldOf s earlier d asked e (meaning packet) answer
by_kind s earlier d asked e packet p is answer from =
    subst (λ (q : Packet). IsSaidBy s e (meaning q) d → (IsWrongKind e asked.side (meaning q) → ⊥) → IsToldOf s earlier d asked e (meaning q) answer) (sym is) from

pub returns-then-is_wrong_kind : goal.returns-then-is_wrong_kind
returns-then-is_wrong_kind c = λ s earlier d apart passes are request notes says.
    wrong_told s apart earlier passes d c.args.from c.args.asked.now request c.args.self.now are (meaning c.args.packet.now)
    (subst (λ (x : Side). IsWrongKind c.args.from x (meaning c.args.packet.now)) c.side.ensures (c.is_wrong_kind.ensures.0 c.if-is_wrong_kind.true))

pub returns-then-block-eq0 : goal.returns-then-block-eq0
returns-then-block-eq0 c = λ s earlier d apart passes are request notes says.
    let zero : c.in-Data.block ≡ 0 = search rules in
    by_kind s earlier d c.args.asked.now c.args.from c.args.packet.now _ c.in-Data.is (Some true) (λ now right. (rule.Block EndRule.BlockZero, zero)) says
    (λ wrong. true≢false (sym (c.is_wrong_kind.ensures.1 (subst (λ (x : Side). IsWrongKind c.args.from x (meaning c.args.packet.now)) (sym c.side.ensures) wrong)) ∙ c.if-is_wrong_kind.false))

pub returns-in-Request : goal.returns-in-Request
returns-in-Request c = λ s earlier d apart passes are request notes says.
    by_kind s earlier d c.args.asked.now c.args.from c.args.packet.now _ c.in-Request.is (Some (not c.same_request.result))
    (λ now right. request_told s apart earlier passes d c.args.from c.args.asked.now request c.args.self.now are _ right c.same_request.result c.same_request.ensures.0 c.same_request.ensures.1 _ refl) says
    (λ wrong. true≢false (sym (c.is_wrong_kind.ensures.1 (subst (λ (x : Side). IsWrongKind c.args.from x (meaning c.args.packet.now)) (sym c.side.ensures) wrong)) ∙ c.if-is_wrong_kind.false))

pub returns-else-block-eq0 : goal.returns-else-block-eq0
returns-else-block-eq0 c = λ s earlier d apart passes are request notes says.
    let was = subst (λ (t : Told). AreTold t s earlier) (sym c.self.view_is) are in
    let low : 1 ≤ c.in-Data.block = search rules in
    by_kind s earlier d c.args.asked.now c.args.from c.args.packet.now _ c.in-Data.is c.unfit.result
    (λ now right. block_told s apart earlier passes d c.args.from c.args.asked.now request c.args.self.now are c.in-Data.block c.in-Data.bytes.now now right low c.with_block.result
    (λ f is. subst (λ r. IfSome r (λ (x : Figures). AreFigures x s (d ∷ earlier))) is (c.with_block.ensures.some s earlier d c.args.from c.in-Data.bytes.now was.figures now refl))
    (λ none. c.with_block.ensures.none s earlier d c.args.from c.in-Data.bytes.now c.args.asked.now was.figures now refl none) c.unfit.result c.unfit.ensures) says
    (λ wrong. true≢false (sym (c.is_wrong_kind.ensures.1 (subst (λ (x : Side). IsWrongKind c.args.from x (meaning c.args.packet.now)) (sym c.side.ensures) wrong)) ∙ c.if-is_wrong_kind.false))

pub returns-in-Ack : goal.returns-in-Ack
returns-in-Ack c = λ s earlier d apart passes are request notes says.
    let was = subst (λ (t : Told). AreTold t s earlier) (sym c.self.view_is) are in
    by_kind s earlier d c.args.asked.now c.args.from c.args.packet.now _ c.in-Ack.is c.unfit-in-Ack.result
    (λ now right. ack_told s apart earlier passes d c.args.from c.args.asked.now request c.args.self.now are c.in-Ack.block now right c.with_ack.result
    (λ f is. subst (λ r. IfSome r (λ (x : Figures). AreFigures x s (d ∷ earlier))) is (c.with_ack.ensures.some s earlier d c.args.from was.figures now))
    (λ none. c.with_ack.ensures.none s earlier d c.args.from c.args.asked.now was.figures now none) c.unfit-in-Ack.result c.unfit-in-Ack.ensures) says
    (λ wrong. true≢false (sym (c.is_wrong_kind.ensures.1 (subst (λ (x : Side). IsWrongKind c.args.from x (meaning c.args.packet.now)) (sym c.side.ensures) wrong)) ∙ c.if-is_wrong_kind.false))

pub returns-in-Error : goal.returns-in-Error
returns-in-Error c = λ s earlier d apart passes are request notes says.
    let other = c.has_other_error.ensures s (transfer_between s earlier) notes in
    by_kind s earlier d c.args.asked.now c.args.from c.args.packet.now _ c.in-Error.is (Some c.has_other_error.result)
    (λ now right. error_told s apart earlier passes d c.args.from c.args.asked.now request c.args.self.now are c.in-Error.code c.in-Error.message.now right c.has_other_error.result other.0 other.1) says
    (λ wrong. true≢false (sym (c.is_wrong_kind.ensures.1 (subst (λ (x : Side). IsWrongKind c.args.from x (meaning c.args.packet.now)) (sym c.side.ensures) wrong)) ∙ c.if-is_wrong_kind.false))

pub returns-in-Oack : goal.returns-in-Oack
returns-in-Oack c = λ s earlier d apart passes are request notes says.
    by_kind s earlier d c.args.asked.now c.args.from c.args.packet.now _ c.in-Oack.is c.oack_breaks.result
    (λ now right. c.oack_breaks.ensures s earlier d c.args.from apart passes are request now right) says
    (λ wrong. true≢false (sym (c.is_wrong_kind.ensures.1 (subst (λ (x : Side). IsWrongKind c.args.from x (meaning c.args.packet.now)) (sym c.side.ensures) wrong)) ∙ c.if-is_wrong_kind.false))
