use Rattle.std.proofs.Common.{◌≡◌, None, length}
use Rattle.std.specs.FinMap as map
use Rattle.tftp_nego.specs.{EachName, SomeName, HasOption}
use Rattle.tftp_nego.proofs.names.all_requested.Given as goal

-- what holds of the options that are left, holds of all
abbrev pub invariant-loop-name : goal.invariant-loop-name
invariant-loop-name l = record {
  each : EachName (HasOption l.request.options) l.pairs → EachName (HasOption l.request.options) l.oack;
  some : SomeName (λ name. map.get l.request.options name ≡ None) l.pairs → SomeName (λ name. map.get l.request.options name ≡ None) l.oack;
}

abbrev pub decreases-loop-name : goal.decreases-loop-name
decreases-loop-name l = length l.pairs
