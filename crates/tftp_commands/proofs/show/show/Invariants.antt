use Rattle.std.proofs.Common.{◌≡◌, ◌≤◌, ◌+◌, ◌*◌, ◌-◌, ◌^◌, false}
use Rattle.net_streams.specs.{Open}
use Rattle.tftp_commands.proofs.Showing.{Showing}
use Rattle.tftp_commands.proofs.show.show.Given as goal

abbrev pub invariant-loop-writer : goal.invariant-loop-writer
invariant-loop-writer g l = record {
  going : l.capture.standing ≡ Open;
  reading : l.reader.1 ≡ false;
  writing : l.writer.failed ≡ false;
  few : l.number + 3 ≤ l.capture.handed;
  by : l.numbers.rollover ≡ l.fn.rollover;
  low : l.numbers.highest ≤ 2 ^ 17 * l.number;
  shown : Showing l.fn.rollover l.numbers (g.R.Read.remaining l.fn.reader.0) (g.R.Read.remaining l.reader.0) l.capture (g.W.Write.contents l.fn.writer.inner) (g.W.Write.contents l.writer.inner) l.writer.waits l.number;
}

abbrev pub decreases-loop-writer : goal.decreases-loop-writer
decreases-loop-writer g l = 2 ^ 40 - l.capture.handed
