use Rattle.std.proofs.Common.{◌≡◌, true}
use Rattle.tftp_capture.specs.{IsReadStanding}
use Rattle.tests_tools.proofs.works.count_datagrams.Given as goal

abbrev pub invariant-loop-count : goal.invariant-loop-count
invariant-loop-count g l = IsReadStanding l.capture.standing → l.reader.1 ≡ true
