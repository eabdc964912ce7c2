use Rattle.std.proofs.Common.{◌↔◌, length}
use Rattle.tftp_packet.specs.{HasEach}
use Rattle.tftp_packet.proofs.same.has_each.Given as goal

-- what is asked of all options is asked of those that are left
abbrev pub invariant-loop-name : goal.invariant-loop-name
invariant-loop-name l = HasEach l.options l.pairs ↔ HasEach l.options l.view

abbrev pub decreases-loop-name : goal.decreases-loop-name
decreases-loop-name l = length l.pairs
