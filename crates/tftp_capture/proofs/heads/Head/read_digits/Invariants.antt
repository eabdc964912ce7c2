use Rattle.std.proofs.Common.{◌≡◌, ◌+◌, ◌-◌, ◌*◌, length}
use Rattle.std.specs.Io.KnownBytes.{prepend_known, Keeps}
use Rattle.tftp_capture.specs.{HoldsPart, IsDecoded}
use Rattle.net_streams.specs.Streams.{most_ahead}
use Rattle.tftp_capture.proofs.heads.Head.read_digits.Given as goal

abbrev pub invariant-reads : goal.invariant-reads
invariant-reads g l = record {
  line : l.line ≡ l.self.line;
  pairs : l.line ≡ length l.self.bytes + 2 * length l.payload;
  part : HoldsPart l.ahead.bytes l.seen l.line l.line;
  decoded : IsDecoded l.self l.ahead.bytes l.payload l.done;
  kept : Keeps (prepend_known l.fn.ahead.bytes (g.R.Read.remaining l.fn.reader.0)) (prepend_known l.ahead.bytes (g.R.Read.remaining l.reader.0));
  tally : l.reader.1 ≡ l.fn.reader.1;
}

abbrev pub decreases-reads : goal.decreases-reads
decreases-reads g l = l.line + most_ahead - length l.ahead.bytes
