use Rattle.std.proofs.Common.{◌≡◌, ◌≤◌, length, take}
use Rattle.tftp_ends.specs.Blocks.{total}
use Rattle.tftp_ends.proofs.blocks.waiting.Waiting.packed.Given as goal

abbrev pub invariant-loop-place : goal.invariant-loop-place
invariant-loop-place l = record {
  same : l.packed.0 ≡ take l.place l.self.0;
  kept : l.packed.1 ≡ total (take l.place l.self.0);
  within : l.place ≤ l.place-end;
  end_is : l.place-end ≡ length l.self.0;
}
