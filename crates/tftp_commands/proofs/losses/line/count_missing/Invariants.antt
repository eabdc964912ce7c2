use Rattle.std.proofs.Common.{◌≡◌, ◌+◌, length}
use Rattle.judge_losses.specs.{missing_at}
use Rattle.tftp_commands.proofs.losses.line.count_missing.Given as goal

-- those of the places so far and those of the rest are all
abbrev pub invariant-loop-place : goal.invariant-loop-place
invariant-loop-place l = l.count + missing_at l.rest ≡ missing_at l.fn.places

abbrev pub decreases-loop-place : goal.decreases-loop-place
decreases-loop-place l = length l.rest
