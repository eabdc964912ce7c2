use Rattle.std.proofs.Common.{length, take, ◌-◌, ◌≡◌, ◌≤◌, false}
use Rattle.std.specs.Io.KnownBytes.{Appends}
use Rattle.net_streams.proofs.streams.whole.write_whole.Given as goal

abbrev pub invariant-loop-written : goal.invariant-loop-written
invariant-loop-written g l = record {
  going : l.writer.1 ≡ false;
  within : l.written ≤ length l.bytes;
  appended : Appends (g.W.Write.contents l.initial.writer.0) (g.W.Write.contents l.writer.0) (take l.written l.bytes);
}

abbrev pub decreases-loop-written : goal.decreases-loop-written
decreases-loop-written g l = length l.bytes - l.written
