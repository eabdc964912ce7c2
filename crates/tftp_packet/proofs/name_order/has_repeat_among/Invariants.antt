use Rattle.std.proofs.Common.{◌↔◌, ◌<◌, length}
use Rattle.tftp_packet.specs.{keys_in, HasTwo}
use Rattle.tftp_packet.proofs.name_order.has_repeat_among.Given as goal

-- there is room, and what is asked of all options is asked of those that are left
abbrev pub invariant-loop-left : goal.invariant-loop-left
invariant-loop-left l = (0 < length l.names) × (HasTwo (keys_in l.long l.left) ↔ HasTwo (keys_in l.long l.bytes))

abbrev pub decreases-loop-left : goal.decreases-loop-left
decreases-loop-left l = length l.left
