use Rattle.std.proofs.Common.{◌∷◌, sym, ap, subst, ◌∙◌}
use Rattle.tftp_capture.specs.{datagram_of}
use Rattle.law_model.specs.Rules.{IsHigh}
use Rattle.tftp_judge.specs.{AreFlags}
use Rattle.judge_pair.specs.Blocks.{at_block, with_block}
use Rattle.judge_pair.specs.Judge.{Acks, flags_in}
use Rattle.judge_pair.proofs.judge.side.Side.note.Goals as goal

pub returns-clause-acks : goal.returns-clause-acks
returns-clause-acks g c = λ passed are.
    subst (λ (a : Acks). AreFlags (flags_in a) (at_block c.args.block (datagram_of c.args.datagram.now) ∷ passed)) (sym (c.raise.ensures.acks ∙ c.count.ensures.acks)) (c.note_ack.ensures.acks passed are)

pub returns-clause-high : goal.returns-clause-high
returns-clause-high g c = λ passed top.
    c.raise.ensures.high passed (at_block c.args.block (datagram_of c.args.datagram.now)) (ap (with_block c.args.block) (sym c.as_slice.ensures))
    (subst (IsHigh passed) (sym (c.count.ensures.highest ∙ c.note_ack.ensures.highest)) top)
