use Rattle.std.proofs.Common.{length}
use Rattle.tftp_packet.specs.{keys_in, HasTwo}
use Rattle.tftp_packet.proofs.name_marks.has_repeat_of_mark.Given as goal

-- what stands twice among those that are left stands twice among all
abbrev pub invariant-loop-name : goal.invariant-loop-name
invariant-loop-name l = HasTwo (keys_in l.long l.rest) → HasTwo (keys_in l.long l.bytes)

abbrev pub decreases-loop-name : goal.decreases-loop-name
decreases-loop-name l = length l.rest
