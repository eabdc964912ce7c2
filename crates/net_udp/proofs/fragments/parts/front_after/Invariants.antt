use Rattle.std.proofs.Common.{◌≡◌, ◌-◌, ◌<◌, ◌≤◌, ℕ, Some, None, length, slice_index_or}
use Rattle.net_udp.proofs.fragments.parts.front_after.Given as goal

abbrev pub invariant-loop-front : goal.invariant-loop-front
invariant-loop-front l = (l.from ≤ l.front) × (l.front ≤ length l.cells) × ((k : ℕ) → l.from ≤ k → k < l.front → (b : ℕ) × (slice_index_or l.cells k None ≡ Some b))

abbrev pub decreases-loop-front : goal.decreases-loop-front
decreases-loop-front l = length l.cells - l.front
