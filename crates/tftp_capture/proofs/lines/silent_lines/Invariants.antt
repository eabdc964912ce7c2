use Rattle.std.proofs.Common.{◌-◌, ◌≤◌, length}
use Rattle.tftp_capture.specs.{BeginsSilent}
use Rattle.tftp_capture.proofs.lines.silent_lines.Given as goal

abbrev pub invariant-lines : goal.invariant-lines
invariant-lines l = BeginsSilent l.longest l.bytes l.at l.count × (l.count ≤ l.at) × (l.at ≤ l.room)

abbrev pub decreases-lines : goal.decreases-lines
decreases-lines l = length l.bytes - l.at
