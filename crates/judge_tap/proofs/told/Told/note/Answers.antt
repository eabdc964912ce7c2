use Rattle.std.proofs.Common.{◌∷◌, refl, sym, subst, IfSome}
use Rattle.tftp_packet.specs.{Message, meaning, Packet}
use Rattle.law_tap.specs.{AreFigures, Figures, IsSaidBy}
use Rattle.judge_tap.specs.{AreTold, Told}
use Rattle.judge_tap.proofs.ToldFound.{ack_explained, data_explained, now_said, told_figures, told_oack_noted, told_silent}
use Rattle.judge_tap.proofs.told.Told.note.Goals as goal

pub returns-in-Data : goal.returns-in-Data
returns-in-Data c = λ s earlier d e apart passes request says are.
    let said = Message.Data c.in-Data.block c.in-Data.bytes.now in
    let now : IsSaidBy s e said d = subst (λ (p : Packet). IsSaidBy s e (meaning p) d) c.in-Data.is says in
    let was = subst (λ (t : Told). AreTold t s earlier) (sym c.self.view_is) are in
    told_figures s apart earlier d e said now (λ options is. absurd (cc)) c.with_block.result
    (λ none. data_explained s apart (d ∷ earlier) passes c.args.asked.now request e c.in-Data.block c.in-Data.bytes.now (now_said s apart earlier d e said now)
    (c.with_block.ensures.none s earlier d e c.in-Data.bytes.now c.args.asked.now was.figures now refl none))
    (λ f is. subst (λ r. IfSome r (λ (x : Figures). AreFigures x s (d ∷ earlier))) is (c.with_block.ensures.some s earlier d e c.in-Data.bytes.now was.figures now refl))
    _ c.note_figures.new.self c.note_figures.ensures.rollover c.note_figures.ensures.figures c.note_figures.ensures.offered c.note_figures.ensures.known are

pub returns-in-Ack : goal.returns-in-Ack
returns-in-Ack c = λ s earlier d e apart passes request says are.
    let said = Message.Ack c.in-Ack.block in
    let now : IsSaidBy s e said d = subst (λ (p : Packet). IsSaidBy s e (meaning p) d) c.in-Ack.is says in
    let was = subst (λ (t : Told). AreTold t s earlier) (sym c.self.view_is) are in
    told_figures s apart earlier d e said now (λ options is. absurd (cc)) c.with_ack.result
    (λ none. ack_explained s apart (d ∷ earlier) passes c.args.asked.now request e c.in-Ack.block (now_said s apart earlier d e said now)
    (c.with_ack.ensures.none s earlier d e c.args.asked.now was.figures now none))
    (λ f is. subst (λ r. IfSome r (λ (x : Figures). AreFigures x s (d ∷ earlier))) is (c.with_ack.ensures.some s earlier d e was.figures now))
    _ c.note_figures-in-Ack.new.self c.note_figures-in-Ack.ensures.rollover c.note_figures-in-Ack.ensures.figures c.note_figures-in-Ack.ensures.offered c.note_figures-in-Ack.ensures.known are

pub returns-in-Oack : goal.returns-in-Oack
returns-in-Oack c = λ s earlier d e apart passes request says are.
    let now = subst (λ (p : Packet). IsSaidBy s e (meaning p) d) c.in-Oack.is says in
    told_oack_noted s apart earlier d e _ now _ c.note_oack.new.self c.note_oack.ensures.rollover c.note_oack.ensures.figures c.note_oack.ensures.noted are

pub returns-in-Request : goal.returns-in-Request
returns-in-Request c = λ s earlier d e apart passes request says are.
    let now = subst (λ (p : Packet). IsSaidBy s e (meaning p) d) c.in-Request.is says in
    told_silent s apart earlier d e _ now (λ options is. absurd (cc)) (λ k is. absurd (cc)) (λ k bytes is. absurd (cc)) c.args.self.now are

pub returns-in-Error : goal.returns-in-Error
returns-in-Error c = λ s earlier d e apart passes request says are.
    let now = subst (λ (p : Packet). IsSaidBy s e (meaning p) d) c.in-Error.is says in
    told_silent s apart earlier d e _ now (λ options is. absurd (cc)) (λ k is. absurd (cc)) (λ k bytes is. absurd (cc)) c.args.self.now are
