use Rattle.std.proofs.Common.{refl, sym, subst}
use Rattle.tftp_packet.specs.{Message, Spells}
use Rattle.judge_tap.specs.{IsReadOf}
use Rattle.law_rollover.specs.{unrolled_payload}
use Rattle.law_rollover.proofs.Payloads.{neither_stays}
use Rattle.law_rollover.proofs.Unrolling.{ack_unrolled, data_unrolled}
use Rattle.judge_tap.proofs.TransferFound.{read_of}
use Rattle.judge_tap.proofs.reading.read_near.Goals as goal

pub returns-in-Some : goal.returns-in-Some
returns-in-Some c = λ low.
    subst (λ k. Spells (unrolled_payload c.args.rollover c.args.highest c.args.payload.now) (Message.Data k c.in-Some.bytes.now)) (sym (c.position-block.ensures low))
    (data_unrolled c.args.rollover c.args.highest c.in-Some.number c.in-Some.bytes.now c.args.payload.now c.in-Some.ensures.spelled)

pub returns-in-Some-ack_of : goal.returns-in-Some-ack_of
returns-in-Some-ack_of c = λ low.
    subst (λ k. Spells (unrolled_payload c.args.rollover c.args.highest c.args.payload.now) (Message.Ack k)) (sym (c.position-block-in-Some-ack_of.ensures low))
    (ack_unrolled c.args.rollover c.args.highest c.in-Some-ack_of.number c.args.payload.now c.in-Some-ack_of.ensures.spelled)

pub returns : goal.returns
returns c = λ low.
    subst (λ l. IsReadOf l c.read_packet.result) (sym (neither_stays c.args.rollover c.args.highest c.args.payload.now (c.in_default.ensures.none refl) (c.in_default-ack_of.ensures.none refl)))
    (read_of c.args.payload.now c.read_packet.result c.read_packet.ensures.found c.read_packet.ensures.fault)
