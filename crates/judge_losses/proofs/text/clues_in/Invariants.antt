use Rattle.std.proofs.Common.{◌≡◌, ◌-◌, ◌^◌}
use Rattle.net_streams.specs.{Standing}
use Rattle.judge_losses.proofs.text.clues_in.Given as goal

-- the reader goes on
abbrev pub invariant-loop-datagram : goal.invariant-loop-datagram
invariant-loop-datagram g l = l.capture.standing ≡ Standing.Open

abbrev pub decreases-loop-datagram : goal.decreases-loop-datagram
decreases-loop-datagram g l = 2 ^ 40 - l.capture.handed
