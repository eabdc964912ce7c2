use Rattle.std.proofs.Common.{◌≡◌, ◌+◌, length}
use Rattle.tftp_netascii.specs.{count_after, begins_control, is_second}
use Rattle.tftp_netascii.proofs.lengths.file_lengths.Given as goal

-- those that are counted and those of the rest are all
abbrev pub invariant-loop-rest : goal.invariant-loop-rest
invariant-loop-rest l = record {
  seconds : l.seconds + count_after is_second l.before l.rest ≡ count_after is_second 0 l.fn.wire;
  controls : l.controls + count_after begins_control l.before l.rest ≡ count_after begins_control 0 l.fn.wire;
}

abbrev pub decreases-loop-rest : goal.decreases-loop-rest
decreases-loop-rest l = length l.rest
