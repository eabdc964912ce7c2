use Rattle.std.proofs.Common.{◌≡◌}
use Rattle.tests_tools.proofs.works.write_datagrams.Given as goal

-- each datagram is counted
abbrev pub invariant-loop-count : goal.invariant-loop-count
invariant-loop-count g l = l.capture ≡ l.count
