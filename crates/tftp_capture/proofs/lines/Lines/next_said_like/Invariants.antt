use Rattle.std.proofs.Common.{◌≡◌, ◌-◌, ◌^◌}
use Rattle.std.specs.Io.KnownBytes.{prepend_known}
use Rattle.tftp_capture.specs.{Skipped}
use Rattle.tftp_capture.proofs.lines.Lines.next_said_like.Given as goal

abbrev pub invariant-lines : goal.invariant-lines
invariant-lines g l = record {
  tally : l.reader.1 ≡ l.fn.reader.1;
  skips : Skipped l.initial.self l.self (prepend_known l.initial.self.ahead (g.R.Read.remaining l.initial.reader.0)) (prepend_known l.self.ahead (g.R.Read.remaining l.reader.0));
}

abbrev pub decreases-lines : goal.decreases-lines
decreases-lines g l = 2 ^ 40 - l.self.taken
