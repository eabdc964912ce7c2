use Rattle.std.proofs.Common.{◌≡◌, ◌≤◌, ℕ, List, ◌++◌, length, take, drop}
use Rattle.tftp_netascii.specs.{Reads}
use Rattle.tftp_netascii.proofs.in_place.decode_in_place.Given as goal

-- whatever the rest reads as comes after what is written
abbrev pub invariant-loop-run : goal.invariant-loop-run
invariant-loop-run l = record {
  size : length l.bytes ≡ length l.fn.text.items;
  behind : l.written ≤ l.read;
  within : l.read ≤ length l.bytes;
  reads : (file : List ℕ) → Reads (drop l.read l.bytes) file → Reads l.fn.text.items (take l.written l.bytes ++ file);
}

abbrev pub decreases-loop-run : goal.decreases-loop-run
decreases-loop-run l = length (drop l.read l.bytes)
