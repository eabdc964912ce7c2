use Rattle.std.proofs.Common.{◌≡◌, ◌+◌, ◌≤◌, ◌++◌, [], length}
use Rattle.tftp_ends.specs.Blocks.{leading, cut, filled, IsRow}
use Rattle.tftp_ends.proofs.blocks.ring_delivered.advance.Given as goal

abbrev pub invariant-loop-front : goal.invariant-loop-front
invariant-loop-front l = record {
  row : IsRow l.block_size l.joined.items l.front l.pending.0;
  room : length l.joined.items + leading l.pending.0 ≤ l.joined.cap;
  slots : cut l.block_size l.front l.joined.items ++ l.pending.0 ≡ cut l.block_size l.fn.from l.fn.joined.items ++ l.fn.pending.0;
  within : l.fn.from ≤ l.front;
  long : l.front + length l.pending.0 ≡ l.fn.from + length l.fn.pending.0;
  count : l.front + filled l.pending.0 ≡ l.fn.from + filled l.fn.pending.0;
  kept : l.pending.1 ≤ l.fn.pending.1;
  empty : (l.fn.pending.0 ≡ [] → l.fn.pending.1 ≡ 0) → l.pending.0 ≡ [] → l.pending.1 ≡ 0;
}

abbrev pub decreases-loop-front : goal.decreases-loop-front
decreases-loop-front l = length l.pending.0
