use Rattle.std.proofs.Common.{◌≡◌, ◌↔◌, length}
use Rattle.tftp_packet.specs.{lower, pairs_of, AnyOf}
use Rattle.tftp_packet.proofs.option_check.has_name.Given as goal

-- what is asked of all options is asked of those that are left
abbrev pub invariant-loop-other : goal.invariant-loop-other
invariant-loop-other l = AnyOf (λ pair. lower l.name ≡ lower pair.0) (pairs_of l.rest) ↔ AnyOf (λ pair. lower l.name ≡ lower pair.0) (pairs_of l.bytes)

abbrev pub decreases-loop-other : goal.decreases-loop-other
decreases-loop-other l = length l.rest
