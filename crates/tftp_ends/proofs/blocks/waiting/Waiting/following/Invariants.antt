use Rattle.std.proofs.Common.{◌≡◌, ◌+◌, ◌-◌, ◌*◌, ◌≤◌, drop}
use Rattle.tftp_ends.specs.Blocks.{leading, shown}
use Rattle.tftp_ends.proofs.blocks.waiting.Waiting.following.Given as goal

abbrev pub invariant-loop-at : goal.invariant-loop-at
invariant-loop-at l = record {
  total : l.total + leading (drop l.at (shown l.self-inside.bytes.items l.self-inside.places.items)) ≡ leading (drop 1 (shown l.self-inside.bytes.items l.self-inside.places.items));
  from_one : 1 ≤ l.at;
  bound : l.total + 65535 ≤ l.at * 65535;
  within : (l.at ≤ l.self-inside.places.len + 1) × (l.at ≤ 65536);
}

abbrev pub decreases-loop-at : goal.decreases-loop-at
decreases-loop-at l = l.self-inside.places.len + 1 - l.at
