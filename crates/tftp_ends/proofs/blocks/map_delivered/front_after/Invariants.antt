use Rattle.std.proofs.Common.{◌≡◌, ◌-◌, ◌<◌, ◌≤◌, ℕ, true, nat_cmp, is_some}
use Rattle.std.specs.BTreeMap.{get}
use Rattle.tftp_ends.proofs.blocks.map_delivered.front_after.Given as goal

abbrev pub invariant-loop-front : goal.invariant-loop-front
invariant-loop-front l = record {
  within : l.fn.from ≤ l.front;
  fits : l.front ≤ 4294967295;
  held : (k : ℕ) → l.fn.from < k → k ≤ l.front → is_some (get nat_cmp l.blocks k) ≡ true;
}

abbrev pub decreases-loop-front : goal.decreases-loop-front
decreases-loop-front l = 4294967295 - l.front
