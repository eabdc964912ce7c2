use Rattle.std.proofs.Common.{◌≡◌, ◌≤◌, ◌+◌, ◌++◌, ℕ, List, drop}
use Rattle.tftp_netascii.specs.{count_after, begins_control, is_second}
use Rattle.tftp_netascii.proofs.lengths.counts_in.Given as goal

-- those that are counted and those of what is left are all, whatever comes after the piece
abbrev pub invariant-loop-byte : goal.invariant-loop-byte
invariant-loop-byte l = record {
  few_seconds : l.seconds ≤ l.byte-index;
  few_controls : l.controls ≤ l.byte-index;
  seconds : (rest : List ℕ) → l.seconds + count_after is_second l.last (drop l.byte-index l.piece ++ rest) ≡ count_after is_second l.fn.before (l.fn.piece ++ rest);
  controls : (rest : List ℕ) → l.controls + count_after begins_control l.last (drop l.byte-index l.piece ++ rest) ≡ count_after begins_control l.fn.before (l.fn.piece ++ rest);
}
