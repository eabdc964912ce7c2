use Rattle.std.proofs.Common.{◌≡◌, ◌+◌, ◌<◌, ℕ, Some, None, slice_index, slice_index_or}
use Rattle.net_udp.proofs.fragments.parts.differ.Given as goal

abbrev pub invariant-loop-i : goal.invariant-loop-i
invariant-loop-i l = (i b : ℕ) → i < l.i → slice_index_or l.cells (l.place + i) None ≡ Some b → b ≡ slice_index l.content i
