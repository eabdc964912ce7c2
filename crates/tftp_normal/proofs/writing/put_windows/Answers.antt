use Rattle.std.proofs.Common.{rules, ◌≡◌, ◌+◌, ◌-◌, ◌^◌, ◌<◌, ◌≤◌, subst, ap₂, ◌∙◌, arith}
use Rattle.tftp_packet.specs.{Message, canonical}
use Rattle.law_model.specs.Model.Machines.{receiver_of}
use Rattle.law_model.specs.Model.{Ack}
use Rattle.law_end.specs.{blocks_of}
use Rattle.tftp_normal.specs.{normal_datagram_by, sent_by}
use Rattle.tftp_normal.proofs.Putting.{puts_err}
use Rattle.tftp_normal.proofs.BlocksPut.{ack_datagram, left_at_start, blocks_counted}
use Rattle.tftp_normal.proofs.WindowsPut.{windows_first, window_count_fits, window_failed, ack_failed, window_put, windows_done}
use Rattle.tftp_normal.proofs.writing.put_windows.Goals as goal
use Rattle.tftp_normal.proofs.writing.put_windows.Goals.{in-Get, in-Put}

pub loop-acked-init : goal.loop-acked-init
loop-acked-init g c = record {
  clean = c.requires.clean;
  order = omega arith;
  size = c.requires.size;
  left = c.requires.left ∙ left_at_start c.args.transfer.now;
  windows = windows_first c.args.rollover c.args.transfer.now g.W.Write.contents c.requires.window _ _;
}

pub put_blocks-requires-clause-few : goal.put_blocks-requires-clause-few
put_blocks-requires-clause-few g c =
    let low : c.loop-acked.acked < blocks_of c.args.transfer.now = subst (λ n. c.loop-acked.acked < n) c.blocks-in-loop-acked.ensures.count c.loop-acked-test.true in
    let count = window_count_fits c.args.rollover c.args.transfer.now g.W.Write.contents _ _ _ _ c.loop-acked.acked low c.window_end-last.result c.window_end-last.ensures c.loop-acked.invariant.windows in
    let few = c.requires.few in
    let fits : c.loop-acked.capture + (c.window_end-last.result - c.loop-acked.acked) ≤ 2 ^ 40 = omega (arith, count, few) in
    fits

pub returns-in_err-put_blocks : goal.returns-in_err-put_blocks
returns-in_err-put_blocks g c =
    let low : c.loop-acked.acked < blocks_of c.args.transfer.now = subst (λ n. c.loop-acked.acked < n) c.blocks-in-loop-acked.ensures.count c.loop-acked-test.true in
    puts_err g.W.Write.contents c.args.writer.now c.put_blocks.new.writer c.from_residual.result c.args.capture.now c.put_blocks.new.capture _ c.from_residual.ensures.0 c.requires.clean c.in_err-put_blocks.ensures.puts.failed
    (window_failed c.args.rollover c.args.transfer.now g.W.Write.contents _ _ _ _ c.loop-acked.acked low c.window_end-last.result c.window_end-last.ensures c.loop-acked.invariant.windows c.put_blocks.new.writer (c.in_err-put_blocks.ensures.puts.part c.loop-acked.invariant.clean))

pub put_ack-requires : goal.put_ack-requires
put_ack-requires g c =
    let low : c.loop-acked.acked < blocks_of c.args.transfer.now = subst (λ n. c.loop-acked.acked < n) c.blocks-in-loop-acked.ensures.count c.loop-acked-test.true in
    let count = window_count_fits c.args.rollover c.args.transfer.now g.W.Write.contents _ _ _ _ c.loop-acked.acked low c.window_end-last.result c.window_end-last.ensures c.loop-acked.invariant.windows in
    let few = c.requires.few in
    let put = blocks_counted g.W.Write.contents c.args.rollover c.args.transfer.now _ _ _ _ c.loop-acked.acked (c.window_end-last.result - c.loop-acked.acked) c.in_ok-put_blocks.ensures.puts.2 in
    let fits : c.put_blocks.new.capture + 1 ≤ 2 ^ 40 = omega (arith, count, few, put) in
    record { few = fits }

pub returns-in_err-put_ack : goal.returns-in_err-put_ack
returns-in_err-put_ack g c =
    let low : c.loop-acked.acked < blocks_of c.args.transfer.now = subst (λ n. c.loop-acked.acked < n) c.blocks-in-loop-acked.ensures.count c.loop-acked-test.true in
    let author : c.match-side.author ≡ receiver_of c.args.transfer.now.side = elim c.match-side.branch [ in-Get w ↦ search rules | in-Put w ↦ search rules ] in
    let is : sent_by c.match-side.author (canonical (Message.Ack c.number_of.result)) ≡ normal_datagram_by c.args.rollover c.args.transfer.now (Ack c.window_end-last.result) =
    ap₂ (λ e n. sent_by e (canonical (Message.Ack n))) author c.number_of.ensures ∙ ack_datagram c.args.rollover c.args.transfer.now c.window_end-last.result in
    puts_err g.W.Write.contents c.args.writer.now c.put_ack.new.writer c.from_residual-in_err-put_ack.result c.args.capture.now c.put_ack.new.capture _ c.from_residual-in_err-put_ack.ensures.0 c.requires.clean c.in_err-put_ack.ensures.failed
    (ack_failed c.args.rollover c.args.transfer.now g.W.Write.contents _ _ _ _ c.loop-acked.acked low c.window_end-last.result c.window_end-last.ensures c.loop-acked.invariant.windows _ _ c.in_ok-put_blocks.ensures.puts.2 c.put_ack.new.writer _ is (c.in_err-put_ack.ensures.part c.in_ok-put_blocks.ensures.puts.1))

pub loop-acked-preserved : goal.loop-acked-preserved
loop-acked-preserved g c =
    let low : c.loop-acked.acked < blocks_of c.args.transfer.now = subst (λ n. c.loop-acked.acked < n) c.blocks-in-loop-acked.ensures.count c.loop-acked-test.true in
    let author : c.match-side.author ≡ receiver_of c.args.transfer.now.side = elim c.match-side.branch [ in-Get w ↦ search rules | in-Put w ↦ search rules ] in
    let is : sent_by c.match-side.author (canonical (Message.Ack c.number_of.result)) ≡ normal_datagram_by c.args.rollover c.args.transfer.now (Ack c.window_end-last.result) =
    ap₂ (λ e n. sent_by e (canonical (Message.Ack n))) author c.number_of.ensures ∙ ack_datagram c.args.rollover c.args.transfer.now c.window_end-last.result in
    record {
      clean = c.in_ok-put_ack.ensures.1;
      order = omega (arith, c.window_end-last.ensures);
      size = c.in_ok-put_blocks.ensures.size ∙ c.loop-acked.invariant.size;
      left = c.in_ok-put_blocks.ensures.left;
      windows = window_put c.args.rollover c.args.transfer.now g.W.Write.contents _ _ _ _ c.loop-acked.acked low c.window_end-last.result c.window_end-last.ensures c.loop-acked.invariant.windows _ _ c.in_ok-put_blocks.ensures.puts.2 _ _ _ is c.in_ok-put_ack.ensures.2;
    }

pub returns : goal.returns
returns g c =
    let high : blocks_of c.args.transfer.now ≤ c.loop-acked.acked = omega (arith, c.blocks-in-loop-acked.ensures.count, c.loop-acked-test.false) in
    (c.requires.clean, c.loop-acked.invariant.clean, windows_done c.args.rollover c.args.transfer.now g.W.Write.contents _ _ _ _ c.loop-acked.acked high c.loop-acked.invariant.windows)
