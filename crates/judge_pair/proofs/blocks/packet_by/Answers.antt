use Rattle.std.proofs.Common.{sym, subst}
use Rattle.tftp_packet.specs.{Message, Spells}
use Rattle.judge_pair.specs.Blocks.{with_block}
use Rattle.judge_pair.proofs.JudgeLemmas.Blocks.{ack_placed, data_placed}
use Rattle.judge_pair.proofs.blocks.packet_by.Goals as goal

pub returns-in-Some-block_of-clause-found : goal.returns-in-Some-block_of-clause-found
returns-in-Some-block_of-clause-found c =
    subst (λ block. Spells (with_block block c.args.payload.now) (Message.Data c.in-Some.block c.in-Some-block_of.bytes.now)) (sym c.in-Some.is)
    (data_placed c.in-Some.block _ c.in-Some-block_of.bytes.now c.args.payload.now c.in-Some-block_of.ensures.spelled)

pub returns-in-Some-ack_of-clause-found : goal.returns-in-Some-ack_of-clause-found
returns-in-Some-ack_of-clause-found c =
    subst (λ block. Spells (with_block block c.args.payload.now) (Message.Ack c.in-Some.block)) (sym c.in-Some.is)
    (ack_placed c.in-Some.block _ c.args.payload.now c.in-Some-ack_of.ensures.spelled)
