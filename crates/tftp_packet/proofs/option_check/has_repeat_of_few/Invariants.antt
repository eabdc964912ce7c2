use Rattle.std.proofs.Common.{◌↔◌, length}
use Rattle.tftp_packet.specs.{pairs_of, HasRepeat}
use Rattle.tftp_packet.proofs.option_check.has_repeat_of_few.Given as goal

-- what is asked of all options is asked of those that are left
abbrev pub invariant-loop-name : goal.invariant-loop-name
invariant-loop-name l = HasRepeat (pairs_of l.rest) ↔ HasRepeat (pairs_of l.bytes)

abbrev pub decreases-loop-name : goal.decreases-loop-name
decreases-loop-name l = length l.rest
