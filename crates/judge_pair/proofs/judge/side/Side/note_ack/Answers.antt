use Rattle.std.proofs.Common.{sym, ap}
use Rattle.tftp_capture.specs.{datagram_of}
use Rattle.judge_pair.specs.Blocks.{at_block, with_block}
use Rattle.judge_pair.proofs.judge.side.Side.note_ack.Goals as goal

pub returns-in-Out-clause-acks : goal.returns-in-Out-clause-acks
returns-in-Out-clause-acks g c = λ passed are.
    c.note_sent.ensures.acks passed (at_block c.args.block (datagram_of c.args.datagram.now)) c.in-Out.is (ap (with_block c.args.block) (sym c.as_slice.ensures)) are
