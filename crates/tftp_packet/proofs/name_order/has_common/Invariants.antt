use Rattle.std.proofs.Common.{◌↔◌, length, map as each}
use Rattle.tftp_packet.specs.{lower, HasCommon, keys_in}
use Rattle.tftp_packet.proofs.name_order.has_common.Given as goal

-- what is asked of all options is asked of those that are left
abbrev pub invariant-loop-name : goal.invariant-loop-name
invariant-loop-name l = HasCommon (each (λ name. lower name.now) l.names) (keys_in l.long l.rest) ↔ HasCommon (each (λ name. lower name.now) l.names) (keys_in l.long l.bytes)

abbrev pub decreases-loop-name : goal.decreases-loop-name
decreases-loop-name l = length l.rest
