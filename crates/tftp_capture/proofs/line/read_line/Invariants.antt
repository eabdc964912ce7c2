use Rattle.std.proofs.Common.{◌≡◌, ℕ, List, ◌++◌, ◌+◌, ◌-◌, ◌≤◌, length, take}
use Rattle.std.specs.Io.KnownBytes.{prepend_known, Keeps}
use Rattle.tftp_capture.specs.{IsPartOfLine}
use Rattle.net_streams.specs.Streams.{most_ahead}
use Rattle.tftp_capture.proofs.line.read_line.Given as goal

abbrev pub invariant-reads : goal.invariant-reads
invariant-reads g l = record {
  tally : l.reader.1 ≡ l.fn.reader.1;
  within : l.seen ≤ length l.ahead.bytes;
  near : length l.ahead.bytes ≤ l.seen + most_ahead;
  more : (more : List ℕ) × (l.ahead.bytes ≡ l.fn.ahead.bytes ++ more);
  part : IsPartOfLine (take l.seen l.ahead.bytes) l.longest l.room;
  kept : Keeps (prepend_known l.fn.ahead.bytes (g.R.Read.remaining l.fn.reader.0)) (prepend_known l.ahead.bytes (g.R.Read.remaining l.reader.0));
}

abbrev pub decreases-reads : goal.decreases-reads
decreases-reads g l = l.longest + most_ahead - length l.ahead.bytes
