use Rattle.std.proofs.Common.{length, map as each}
use Rattle.tftp_packet.specs.{as_name, HasTwoBeside}
use Rattle.tftp_packet.proofs.name_marks.repeated_beside.Given as goal

-- what all numbers have side by side, those have that are left
abbrev pub invariant-loop-rest : goal.invariant-loop-rest
invariant-loop-rest l = HasTwoBeside (each as_name l.marks) → HasTwoBeside (each as_name l.rest)

abbrev pub decreases-loop-rest : goal.decreases-loop-rest
decreases-loop-rest l = length l.rest
