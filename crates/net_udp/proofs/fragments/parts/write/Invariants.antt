use Rattle.std.proofs.Common.{◌≡◌, ◌+◌, ◌<◌, ◌≤◌, ℕ, List, Option, Some, None, slice_index, slice_index_or}
use Rattle.net_udp.proofs.fragments.parts.write.Given as goal

pub record Written (old cells : List (Option ℕ)) (place : ℕ) (bytes : List ℕ) (i : ℕ) : Type 0 where
  pub there : (k : ℕ) → k < i → slice_index_or cells (place + k) None ≡ Some (slice_index bytes k)
  pub before : (k : ℕ) → k < place → slice_index_or cells k None ≡ slice_index_or old k None
  pub behind : (k : ℕ) → place + i ≤ k → slice_index_or cells k None ≡ slice_index_or old k None

abbrev pub invariant-loop-i : goal.invariant-loop-i
invariant-loop-i l = Written l.initial.cells l.cells l.place l.bytes l.i
