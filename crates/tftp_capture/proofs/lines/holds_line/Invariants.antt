use Rattle.std.proofs.Common.{length}
use Rattle.tftp_capture.proofs.Skips.{Passes}
use Rattle.tftp_capture.proofs.lines.holds_line.Given as goal

abbrev pub invariant-lines : goal.invariant-lines
invariant-lines l = Passes l.bytes l.rest

abbrev pub decreases-lines : goal.decreases-lines
decreases-lines l = length l.rest
