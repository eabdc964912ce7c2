use Rattle.std.proofs.Common.{◌≡◌, take}
use Rattle.tftp_match.specs.Choice.{matched_in}
use Rattle.tftp_match.proofs.told.matched_of.Given as goal

-- those of the pairs so far
abbrev pub invariant-loop-pair : goal.invariant-loop-pair
invariant-loop-pair l = l.matched.items ≡ matched_in (take l.pair-index l.tried)
