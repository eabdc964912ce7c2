use Rattle.std.proofs.Common.{rules, ◌≡◌, ◌-◌, ◌<◌, ◌+◌, ◌++◌, ap, ap₂, ◌∙◌, arith, length-append}
use Rattle.tftp_packet.specs.{Message, canonical}
use Rattle.law_model.specs.Model.Machines.{sender_of}
use Rattle.law_model.specs.Model.{Data}
use Rattle.tftp_normal.specs.{normal_datagram_by, sent_by}
use Rattle.tftp_normal.proofs.Putting.{puts_err}
use Rattle.tftp_normal.proofs.BlocksPut.{data_datagram, next_packet, next_left, step_putting, step_put, step_failed, length-blocks, putting_count}
use Rattle.tftp_normal.proofs.writing.put_blocks.Goals as goal
use Rattle.tftp_normal.proofs.writing.put_blocks.Goals.{in-Get, in-Put}

pub put_data-requires-clause-few : goal.put_data-requires-clause-few
put_data-requires-clause-few g c =
    let m = c.args.transfer.now in
    let low : c.loop-block.block < c.args.last = c.loop-block-test.true in
    let count = putting_count g.W.Write.contents c.args.rollover m _ _ _ _ _ _ (step_putting g.W.Write.contents c.args.rollover m _ _ _ _ c.loop-block.block c.args.last _ low c.loop-block.invariant.putting) in
    let all = length-blocks c.args.rollover m c.args.acked (c.args.last - c.args.acked) in
    let few = c.requires.few in
    omega (arith, count, all, few)

pub put_data-requires-clause-short : goal.put_data-requires-clause-short
put_data-requires-clause-short g c = omega (arith, length-append c.head.result.now c.block.result.now, c.head.ensures.size, c.block.ensures.short)

pub loop-block-preserved : goal.loop-block-preserved
loop-block-preserved g c =
    let m = c.args.transfer.now in
    let low : c.loop-block.block < c.args.last = c.loop-block-test.true in
    let author : c.match-side.author ≡ sender_of c.args.transfer.now.side = elim c.match-side.branch [ in-Get w ↦ search rules | in-Put w ↦ search rules ] in
    let bytes = next_packet c.args.rollover m c.loop-block.block c.loop-block.packets.size c.loop-block.packets.left c.loop-block.invariant.size c.loop-block.invariant.left in
    let payload = ap (λ l. l ++ c.block.result.now) c.head.ensures.head ∙ ap (λ l. c.fill.new.self.head ++ l) c.block.ensures.block ∙ c.fill.ensures.packet ∙ ap₂ (λ n l. canonical (Message.Data n l)) c.number_of.ensures bytes in
    let is : sent_by c.match-side.author (c.head.result.now ++ c.block.result.now) ≡ normal_datagram_by c.args.rollover c.args.transfer.now (Data (c.loop-block.block + 1)) =
    ap (λ e. sent_by e (c.head.result.now ++ c.block.result.now)) author ∙ ap (sent_by (sender_of c.args.transfer.now.side)) payload ∙ data_datagram c.args.rollover m (c.loop-block.block + 1) in
    record {
      clean = c.in_ok-put_data.ensures.1;
      order = omega (arith, low);
      size = c.fill.ensures.size ∙ c.loop-block.invariant.size;
      left = c.fill.ensures.left ∙ next_left c.args.rollover m c.loop-block.block c.loop-block.packets.size c.loop-block.packets.left c.loop-block.invariant.size c.loop-block.invariant.left;
      putting = step_put g.W.Write.contents c.args.rollover m _ _ _ _ c.loop-block.block c.args.last _ low c.loop-block.invariant.putting _ _ _ is c.in_ok-put_data.ensures.2;
    }

pub returns-in_err-put_data-clause-puts : goal.returns-in_err-put_data-clause-puts
returns-in_err-put_data-clause-puts g c =
    let m = c.args.transfer.now in
    let low : c.loop-block.block < c.args.last = c.loop-block-test.true in
    let author : c.match-side.author ≡ sender_of c.args.transfer.now.side = elim c.match-side.branch [ in-Get w ↦ search rules | in-Put w ↦ search rules ] in
    let bytes = next_packet c.args.rollover m c.loop-block.block c.loop-block.packets.size c.loop-block.packets.left c.loop-block.invariant.size c.loop-block.invariant.left in
    let payload = ap (λ l. l ++ c.block.result.now) c.head.ensures.head ∙ ap (λ l. c.fill.new.self.head ++ l) c.block.ensures.block ∙ c.fill.ensures.packet ∙ ap₂ (λ n l. canonical (Message.Data n l)) c.number_of.ensures bytes in
    let is : sent_by c.match-side.author (c.head.result.now ++ c.block.result.now) ≡ normal_datagram_by c.args.rollover c.args.transfer.now (Data (c.loop-block.block + 1)) =
    ap (λ e. sent_by e (c.head.result.now ++ c.block.result.now)) author ∙ ap (sent_by (sender_of c.args.transfer.now.side)) payload ∙ data_datagram c.args.rollover m (c.loop-block.block + 1) in
    puts_err g.W.Write.contents c.args.writer.now c.put_data.new.writer c.from_residual.result c.args.capture.now c.put_data.new.capture _ c.from_residual.ensures.0 c.requires.clean c.in_err-put_data.ensures.failed
    (step_failed g.W.Write.contents c.args.rollover m _ _ _ _ c.loop-block.block c.args.last _ low c.loop-block.invariant.putting c.put_data.new.writer _ is (c.in_err-put_data.ensures.part c.loop-block.invariant.clean))
