use Rattle.std.proofs.Common.{◌≡◌, ◌-◌, ◌<◌, ◌≤◌}
use Rattle.tftp_ends.specs.Blocks.{placed}
use Rattle.tftp_ends.proofs.blocks.waiting.set_place.Given as goal

abbrev pub invariant-loop-places : goal.invariant-loop-places
invariant-loop-places l = record {
  same : placed l.places.items l.place l.span ≡ placed l.fn.places.items l.place l.span;
  within : l.places.len ≤ l.place;
  room : l.place < l.places.cap;
}

abbrev pub decreases-loop-places : goal.decreases-loop-places
decreases-loop-places l = l.place - l.places.len
