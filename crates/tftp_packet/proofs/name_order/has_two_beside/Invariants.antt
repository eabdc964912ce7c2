use Rattle.std.proofs.Common.{◌↔◌, length, map as each}
use Rattle.tftp_packet.specs.{lower, HasTwoBeside}
use Rattle.tftp_packet.proofs.name_order.has_two_beside.Given as goal

-- what is asked of all names is asked of those that are left
abbrev pub invariant-loop-rest : goal.invariant-loop-rest
invariant-loop-rest l = HasTwoBeside (each (λ name. lower name.now) l.rest) ↔ HasTwoBeside (each (λ name. lower name.now) l.names)

abbrev pub decreases-loop-rest : goal.decreases-loop-rest
decreases-loop-rest l = length l.rest
