use Rattle.std.proofs.Common.{◌≡◌, ℕ, sym, subst, rules}
use Rattle.tftp_packet.specs.{Message, meaning, Spells, Packet}
use Rattle.law_tap.specs.{IsOack}
use Rattle.law_model.proofs.Results.{where_err}
use Rattle.judge_tap.specs.{IsNewBlock, Seen, AreSeen}
use Rattle.judge_tap.proofs.SeenNoted.{IsQuiet, oack_seen, zero_seen, quiet_seen}
use Rattle.judge_tap.proofs.seen.Seen.note.Goals as goal

pub returns-in_ok-note_block-in-Data-clause-ok : goal.returns-in_ok-note_block-in-Data-clause-ok
returns-in_ok-note_block-in-Data-clause-ok c = λ passed d are says.
    c.in_ok-note_block-in-Data.ensures.ok passed d c.in-Data.bytes.now are (subst (λ (p : Packet). Spells d.payload (meaning p)) c.in-Data.is says)

pub returns-in-Oack-clause-ok : goal.returns-in-Oack-clause-ok
returns-in-Oack-clause-ok c = λ passed d are says.
    let was = subst (λ (s : Seen). AreSeen s passed) (sym c.self.view_is) are in
    oack_seen passed d (meaning c.args.packet.now) _ was says (subst (λ (p : Packet). IsOack (meaning p)) (sym c.in-Oack.is) tt)

pub returns-then-block-eq0-clause-ok : goal.returns-then-block-eq0-clause-ok
returns-then-block-eq0-clause-ok c = λ passed d are says.
    let was = subst (λ (s : Seen). AreSeen s passed) (sym c.self-in-Ack.view_is) are in
    let zero : c.in-Ack.block ≡ 0 = search rules in
    zero_seen passed d _ was (subst (λ (n : ℕ). Spells d.payload (Message.Ack n)) zero (subst (λ (p : Packet). Spells d.payload (meaning p)) c.in-Ack.is says))

pub returns-else-block-eq0-clause-ok : goal.returns-else-block-eq0-clause-ok
returns-else-block-eq0-clause-ok c = λ passed d are says.
    let other : c.in-Ack.block ≡ 0 → ⊥ = search rules in
    quiet_seen passed d (meaning c.args.packet.now) _ are says (subst (λ (p : Packet). IsQuiet (meaning p)) (sym c.in-Ack.is) other)

pub returns-in-Request-clause-ok : goal.returns-in-Request-clause-ok
returns-in-Request-clause-ok c = λ passed d are says.
    quiet_seen passed d (meaning c.args.packet.now) _ are says (subst (λ (p : Packet). IsQuiet (meaning p)) (sym c.in-Request.is) tt)

pub returns-in-Error-clause-ok : goal.returns-in-Error-clause-ok
returns-in-Error-clause-ok c = λ passed d are says.
    quiet_seen passed d (meaning c.args.packet.now) _ are says (subst (λ (p : Packet). IsQuiet (meaning p)) (sym c.in-Error.is) tt)

pub returns-in_err-note_block-in-Data-clause-absent : goal.returns-in_err-note_block-in-Data-clause-absent
returns-in_err-note_block-in-Data-clause-absent c = λ passed are. where_err c.from_residual.result
    (subst (λ (p : Packet). IsNewBlock passed (meaning p)) (sym c.in-Data.is) (c.in_err-note_block-in-Data.ensures.absent passed are))
