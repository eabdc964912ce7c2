use Rattle.std.proofs.Common.{◌≡◌, ◌≤◌, ◌-◌, length, take, drop}
use Rattle.tftp_normal.proofs.wire_blocks.WireBlocks.fill.Given as goal

-- so many bytes have gone over
abbrev pub invariant-loop-filled : goal.invariant-loop-filled
invariant-loop-filled l = record {
  size : length l.block ≡ length l.fn.block;
  within : l.filled ≤ length l.block;
  filled : take l.filled l.block ≡ take l.filled l.fn.self;
  left : l.self ≡ drop l.filled l.fn.self;
}

abbrev pub decreases-loop-filled : goal.decreases-loop-filled
decreases-loop-filled l = length l.block - l.filled
