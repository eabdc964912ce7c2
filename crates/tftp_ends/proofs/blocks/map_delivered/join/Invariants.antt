use Rattle.std.proofs.Common.{◌-◌, ◌≤◌}
use Rattle.tftp_ends.specs.Blocks.{IsJoin, held_in}
use Rattle.tftp_ends.proofs.blocks.map_delivered.join.Given as goal

abbrev pub invariant-loop-joined : goal.invariant-loop-joined
invariant-loop-joined l = record {
  within : l.joined ≤ l.front;
  join : IsJoin (held_in l.blocks.entries) l.joined l.wire.items;
}

abbrev pub decreases-loop-joined : goal.decreases-loop-joined
decreases-loop-joined l = l.front - l.joined
