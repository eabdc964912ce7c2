use Rattle.std.proofs.Common.{arith, ◌*◌}
use Rattle.std.proofs.lemmas.Simd.{length-put_chunk}
use Rattle.net_streams.proofs.DigitsLemmas.Lanes.{block_written}
use Rattle.net_streams.proofs.digits.writing.encode_fours.Goals as goal

pub loop-done-init : goal.loop-done-init
loop-done-init c = record { within = omega arith; len = omega arith; written = c.requires.written }

pub loop-done-preserved : goal.loop-done-preserved
loop-done-preserved c = record {
  within = omega arith;
  len = omega (arith, length-put_chunk (2 * c.loop-done.done) c.loop-done.digits c.digits_of_4.result);
  written = block_written c.args.bytes.now c.loop-done.digits c.digits_of_4.result 4 c.loop-done.done (omega arith) c.loop-done.invariant.len c.digits_of_4.ensures c.loop-done.invariant.written;
}
