use Rattle.std.proofs.Common.{◌≡◌, ◌++◌, length}
use Rattle.tftp_netascii.specs.{canonical_wire}
use Rattle.tftp_netascii.proofs.encoder.encode.Given as goal

-- what is written and what the rest is written as is the whole
abbrev pub invariant-loop-run : goal.invariant-loop-run
invariant-loop-run l = l.wire.items ++ canonical_wire l.rest ≡ canonical_wire l.fn.file

abbrev pub decreases-loop-run : goal.decreases-loop-run
decreases-loop-run l = length l.rest
