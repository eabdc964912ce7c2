use Rattle.std.proofs.Common.{◌≡◌, ◌+◌, ◌==◌, ◌||◌, length}
use Rattle.std.specs.List.{count_by}
use Rattle.tftp_netascii.specs.{lf, cr}
use Rattle.tftp_netascii.proofs.encoder.control_count.Given as goal

-- those that are counted and those of the rest are all
abbrev pub invariant-loop-rest : goal.invariant-loop-rest
invariant-loop-rest l = l.count + count_by (λ byte. byte == lf || byte == cr) l.rest ≡ count_by (λ byte. byte == lf || byte == cr) l.fn.file

abbrev pub decreases-loop-rest : goal.decreases-loop-rest
decreases-loop-rest l = length l.rest
