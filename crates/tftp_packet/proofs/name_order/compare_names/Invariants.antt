use Rattle.std.proofs.Common.{◌≡◌, length}
use Rattle.std.specs.Ordering.{nat_cmp}
use Rattle.std.specs.Cmp.Lexicographic.{slice_cmp}
use Rattle.tftp_packet.specs.{lower}
use Rattle.tftp_packet.proofs.name_order.compare_names.Given as goal

-- what is left of the names decides
abbrev pub invariant-loop-left : goal.invariant-loop-left
invariant-loop-left l = slice_cmp nat_cmp (lower l.left) (lower l.right) ≡ slice_cmp nat_cmp (lower l.name) (lower l.other)

abbrev pub decreases-loop-left : goal.decreases-loop-left
decreases-loop-left l = length l.left
