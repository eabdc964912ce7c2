use Rattle.tftp_packet.specs.{meaning}
use Rattle.law_model.specs.Rules.{transfer_of}
use Rattle.judge_pair.specs.Blocks.{with_block}
use Rattle.judge_pair.proofs.JudgeLemmas.Sides.{payload_sent}
use Rattle.judge_pair.proofs.judge.side.Side.has_sent.Goals as goal

pub returns-in-Ok : goal.returns-in-Ok
returns-in-Ok g c = λ h read after.
    payload_sent (transfer_of h read) (with_block c.args.block c.args.payload.now) (meaning c.in-Ok.packet) c.in-Ok.ensures.found c.has_sent_packet.result (c.has_sent_packet.ensures h read after)
