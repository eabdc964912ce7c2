use Rattle.std.proofs.Common.{◌≡◌, length}
use Rattle.tftp_packet.specs.{lower, mixed}
use Rattle.tftp_packet.proofs.name_marks.mark.Given as goal

-- what is left of the name is mixed in
abbrev pub invariant-loop-left : goal.invariant-loop-left
invariant-loop-left l = mixed l.mark (lower l.left) ≡ mixed 0 (lower l.name)

abbrev pub decreases-loop-left : goal.decreases-loop-left
decreases-loop-left l = length l.left
