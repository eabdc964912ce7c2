use Rattle.std.proofs.Common.{◌≡◌, ◌≤◌, length}
use Rattle.tftp_packet.specs.{keys_in}
use Rattle.tftp_packet.proofs.name_marks.next_name.Given as goal

-- the names that are asked for are among those that are left
abbrev pub invariant-loop-name : goal.invariant-loop-name
invariant-loop-name l = (keys_in l.long l.rest ≡ keys_in l.long l.bytes) × (length l.rest ≤ length l.bytes)

abbrev pub decreases-loop-name : goal.decreases-loop-name
decreases-loop-name l = length l.rest
