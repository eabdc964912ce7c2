use Rattle.std.proofs.Common.{◌≡◌, ◌≤◌, ◌<◌, ◌++◌, length, take, map as each}
use Rattle.tftp_packet.specs.{lower, keys_in}
use Rattle.tftp_packet.proofs.name_order.gather.Given as goal

-- the names so far, and those that are left, are all names
abbrev pub invariant-loop-name : goal.invariant-loop-name
invariant-loop-name l = (l.count ≤ length l.names)
    × (length l.names ≡ length l.fn.names)
    × (each (λ name. lower name.now) (take l.count l.names) ++ keys_in l.long l.rest ≡ keys_in l.long l.bytes)
    × (0 < l.count → length l.rest < length l.bytes)
    × (length l.rest ≤ length l.bytes)

abbrev pub decreases-loop-name : goal.decreases-loop-name
decreases-loop-name l = length l.rest
