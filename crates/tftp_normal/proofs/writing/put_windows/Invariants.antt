use Rattle.std.proofs.Common.{◌≡◌, ◌-◌, ◌*◌, ◌≤◌, drop, false}
use Rattle.law_model.specs.Model.{blksize_of}
use Rattle.law_end.specs.{wire_of, blocks_of}
use Rattle.tftp_normal.proofs.WindowsPut.{WindowsLeft}
use Rattle.tftp_normal.proofs.writing.put_windows.Given as goal

abbrev pub invariant-loop-acked : goal.invariant-loop-acked
invariant-loop-acked g l = record {
  clean : l.writer.failed ≡ false;
  order : l.acked ≤ blocks_of l.transfer;
  size : l.packets.size ≡ blksize_of l.transfer;
  left : l.packets.left ≡ drop (l.acked * blksize_of l.transfer) (wire_of l.transfer);
  windows : WindowsLeft l.rollover l.transfer g.W.Write.contents l.initial.writer l.writer l.initial.capture l.capture l.acked;
}

abbrev pub decreases-loop-acked : goal.decreases-loop-acked
decreases-loop-acked g l = blocks_of l.transfer - l.acked
