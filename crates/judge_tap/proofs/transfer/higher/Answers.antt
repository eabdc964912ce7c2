use Rattle.std.proofs.Common.{◌∷◌, sym, subst}
use Rattle.tftp_packet.specs.{Packet, meaning}
use Rattle.law_tap.specs.{IsHighBetween}
use Rattle.law_tap.proofs.TapHighest.{higher_by, one_more_high}
use Rattle.judge_tap.proofs.transfer.higher.Goals as goal

pub returns-in-Data : goal.returns-in-Data
returns-in-Data c = λ passed d top said.
    subst (IsHighBetween (d ∷ passed)) (sym c.max.ensures)
    (subst (λ (p : Packet). IsHighBetween (d ∷ passed) (higher_by (meaning p) c.args.highest)) c.in-Data.is (one_more_high d passed (meaning c.args.packet.now) said c.args.highest top))

pub returns-in-Request : goal.returns-in-Request
returns-in-Request c = λ passed d top said.
    subst (λ (p : Packet). IsHighBetween (d ∷ passed) (higher_by (meaning p) c.args.highest)) c.in-Request.is (one_more_high d passed (meaning c.args.packet.now) said c.args.highest top)

pub returns-in-Oack : goal.returns-in-Oack
returns-in-Oack c = λ passed d top said.
    subst (λ (p : Packet). IsHighBetween (d ∷ passed) (higher_by (meaning p) c.args.highest)) c.in-Oack.is (one_more_high d passed (meaning c.args.packet.now) said c.args.highest top)

pub returns-in-Ack : goal.returns-in-Ack
returns-in-Ack c = λ passed d top said.
    subst (λ (p : Packet). IsHighBetween (d ∷ passed) (higher_by (meaning p) c.args.highest)) c.in-Ack.is (one_more_high d passed (meaning c.args.packet.now) said c.args.highest top)

pub returns-in-Error : goal.returns-in-Error
returns-in-Error c = λ passed d top said.
    subst (λ (p : Packet). IsHighBetween (d ∷ passed) (higher_by (meaning p) c.args.highest)) c.in-Error.is (one_more_high d passed (meaning c.args.packet.now) said c.args.highest top)
