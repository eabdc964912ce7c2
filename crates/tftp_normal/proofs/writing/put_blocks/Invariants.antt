use Rattle.std.proofs.Common.{◌≡◌, ◌-◌, ◌*◌, ◌≤◌, drop, false}
use Rattle.law_model.specs.Model.{blksize_of}
use Rattle.law_end.specs.{wire_of}
use Rattle.tftp_normal.specs.{blocks_after, datagrams_of}
use Rattle.tftp_normal.proofs.Putting.{Putting}
use Rattle.tftp_normal.proofs.writing.put_blocks.Given as goal

abbrev pub invariant-loop-block : goal.invariant-loop-block
invariant-loop-block g l = record {
  clean : l.writer.failed ≡ false;
  order : l.block ≤ l.last;
  size : l.packets.size ≡ blksize_of l.transfer;
  left : l.packets.left ≡ drop (l.block * blksize_of l.transfer) (wire_of l.transfer);
  putting : Putting g.W.Write.contents l.initial.writer l.writer l.initial.capture l.capture (datagrams_of l.rollover l.transfer (blocks_after l.block (l.last - l.block))) (datagrams_of l.rollover l.transfer (blocks_after l.acked (l.last - l.acked)));
}

abbrev pub decreases-loop-block : goal.decreases-loop-block
decreases-loop-block g l = l.last - l.block
