use Rattle.std.proofs.Common.{◌≡◌, ◌-◌, ◌<◌, ◌≤◌, ℕ, true}
use Rattle.judge_tap.specs.{has_number}
use Rattle.judge_tap.proofs.seen.front_after.Given as goal

abbrev pub invariant-loop-front : goal.invariant-loop-front
invariant-loop-front l = record {
  within : l.fn.from ≤ l.front;
  fits : l.front ≤ 4294967295;
  held : (k : ℕ) → l.fn.from < k → k ≤ l.front → has_number k l.above.keys ≡ true;
}

abbrev pub decreases-loop-front : goal.decreases-loop-front
decreases-loop-front l = 4294967295 - l.front
