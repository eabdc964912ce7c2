use Rattle.std.proofs.Common.{◌≡◌, ◌≤◌, ◌++◌, length, take, map as each}
use Rattle.tftp_packet.specs.{keys_in, mark_of}
use Rattle.tftp_packet.proofs.name_marks.gather_marks.Given as goal

-- the numbers so far, and those of the names that are left, are all numbers
abbrev pub invariant-loop-name : goal.invariant-loop-name
invariant-loop-name l = (l.count ≤ length l.marks) × (take l.count l.marks ++ each mark_of (keys_in l.long l.rest) ≡ each mark_of (keys_in l.long l.bytes))

abbrev pub decreases-loop-name : goal.decreases-loop-name
decreases-loop-name l = length l.rest
