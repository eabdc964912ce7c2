use Rattle.std.proofs.Common.{length}
use Rattle.tftp_nego.specs.{EachName, SomeName, IsInProfile, IsOutsideProfile}
use Rattle.tftp_nego.proofs.names.all_known.Given as goal

-- what holds of the options that are left, holds of all
abbrev pub invariant-loop-name : goal.invariant-loop-name
invariant-loop-name l = record {
  each : EachName IsInProfile l.pairs → EachName IsInProfile l.oack;
  some : SomeName IsOutsideProfile l.pairs → SomeName IsOutsideProfile l.oack;
}

abbrev pub decreases-loop-name : goal.decreases-loop-name
decreases-loop-name l = length l.pairs
