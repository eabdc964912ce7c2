use Rattle.std.proofs.Common.{◌≡◌, slice_index_or}
use Rattle.judge_pair.specs.Counts.{surplus_below}
use Rattle.judge_pair.proofs.counts.table.Table.surplus.Given as goal

-- the packets with a lower number
abbrev pub invariant-loop-packet : goal.invariant-loop-packet
invariant-loop-packet l = record {
  so_far : l.count ≡ surplus_below l.packet (λ packet. slice_index_or l.self packet 0) (λ packet. slice_index_or l.other packet 0);
}
