use Rattle.std.proofs.Common.{◌≡◌, List, Result, sym, subst, ap, ◌∙◌}
use Rattle.std.proofs.lemmas.Bool.{true≢false}
use Rattle.tftp_packet.specs.{RequestParts, meaning, Packet, Side, End}
use Rattle.law_end.specs.{IsWrongKind}
use Rattle.law_tap.specs.{IsSaidBy, TapDatagram, TapSides}
use Rattle.tftp_judge.specs.declared.pass_error.PassError.{PassError}
use Rattle.judge_tap.specs.{FindsSaid, SaidNotes}
use Rattle.judge_tap.proofs.said_notes.SaidNotes.take.Goals as goal

-- what is found of a packet, by its kind
by_kind : (s : TapSides) (earlier : List TapDatagram) (d : TapDatagram) (asked : RequestParts) (e : End) (packet p : Packet) → packet ≡ p → (After : Type 0) (found : Result (Unit {0}) PassError)
    → (IsSaidBy s e (meaning p) d → (IsWrongKind e asked.side (meaning p) → ⊥) → FindsSaid s earlier d asked e (meaning p) After found)
    → IsSaidBy s e (meaning packet) d → (IsWrongKind e asked.side (meaning packet) → ⊥) → FindsSaid s earlier d asked e (meaning packet) After found
by_kind s earlier d asked e packet p is After found from =
    subst (λ (q : Packet). IsSaidBy s e (meaning q) d → (IsWrongKind e asked.side (meaning q) → ⊥) → FindsSaid s earlier d asked e (meaning q) After found) (sym is) from

pub returns-in-Request : goal.returns-in-Request
returns-in-Request c = λ s earlier d apart are says.
    let side = c.side.ensures ∙ ap (λ (n : SaidNotes). n.asked.side) c.self.view_is in
    by_kind s earlier d c.args.self.now.asked c.args.end c.args.packet.now _ c.in-Request.is _ c.take_request.result (c.take_request.ensures s earlier d c.args.end are) says
    (λ wrong. true≢false (sym (c.is_wrong_kind.ensures.1 (subst (λ (x : Side). IsWrongKind c.args.end x (meaning c.args.packet.now)) (sym side) wrong)) ∙ c.if-is_wrong_kind.false))

pub returns-in-Data : goal.returns-in-Data
returns-in-Data c = λ s earlier d apart are says.
    let side = c.side.ensures ∙ ap (λ (n : SaidNotes). n.asked.side) c.self.view_is in
    by_kind s earlier d c.args.self.now.asked c.args.end c.args.packet.now _ c.in-Data.is _ c.take_block.result (c.take_block.ensures s earlier d c.args.end are) says
    (λ wrong. true≢false (sym (c.is_wrong_kind.ensures.1 (subst (λ (x : Side). IsWrongKind c.args.end x (meaning c.args.packet.now)) (sym side) wrong)) ∙ c.if-is_wrong_kind.false))

pub returns-in-Ack : goal.returns-in-Ack
returns-in-Ack c = λ s earlier d apart are says.
    let side = c.side.ensures ∙ ap (λ (n : SaidNotes). n.asked.side) c.self.view_is in
    by_kind s earlier d c.args.self.now.asked c.args.end c.args.packet.now _ c.in-Ack.is _ c.take_ack.result (c.take_ack.ensures s earlier d c.args.end are) says
    (λ wrong. true≢false (sym (c.is_wrong_kind.ensures.1 (subst (λ (x : Side). IsWrongKind c.args.end x (meaning c.args.packet.now)) (sym side) wrong)) ∙ c.if-is_wrong_kind.false))

pub returns-in-Error : goal.returns-in-Error
returns-in-Error c = λ s earlier d apart are says.
    let side = c.side.ensures ∙ ap (λ (n : SaidNotes). n.asked.side) c.self.view_is in
    by_kind s earlier d c.args.self.now.asked c.args.end c.args.packet.now _ c.in-Error.is _ c.take_error.result (c.take_error.ensures s earlier d apart are) says
    (λ wrong. true≢false (sym (c.is_wrong_kind.ensures.1 (subst (λ (x : Side). IsWrongKind c.args.end x (meaning c.args.packet.now)) (sym side) wrong)) ∙ c.if-is_wrong_kind.false))

pub returns-in-Oack : goal.returns-in-Oack
returns-in-Oack c = λ s earlier d apart are says.
    let side = c.side.ensures ∙ ap (λ (n : SaidNotes). n.asked.side) c.self.view_is in
    by_kind s earlier d c.args.self.now.asked c.args.end c.args.packet.now _ c.in-Oack.is _ c.take_oack.result (c.take_oack.ensures s earlier d c.args.end are) says
    (λ wrong. true≢false (sym (c.is_wrong_kind.ensures.1 (subst (λ (x : Side). IsWrongKind c.args.end x (meaning c.args.packet.now)) (sym side) wrong)) ∙ c.if-is_wrong_kind.false))
