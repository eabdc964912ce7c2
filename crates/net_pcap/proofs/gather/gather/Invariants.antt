use Rattle.std.proofs.Common.{◌≡◌, ◌-◌, ◌≤◌, ◌++◌, ℕ, List, vec_len, vec_capacity}
use Rattle.std.specs.Io.KnownBytes.{prepend_known, Consumes}
use Rattle.net_pcap.proofs.gather.gather.Given as goal

abbrev pub invariant-reads : goal.invariant-reads
invariant-reads g l = record {
  tally : l.reader.1 ≡ l.fn.reader.1;
  few : vec_len l.piece ≤ l.size;
  roomy : vec_capacity l.fn.piece ≤ vec_capacity l.piece;
  taken : (bytes : List ℕ) × Consumes (prepend_known l.fn.ahead.bytes (g.R.Read.remaining l.fn.reader.0)) (prepend_known l.ahead.bytes (g.R.Read.remaining l.reader.0)) bytes × (l.piece.items ≡ l.fn.piece.items ++ bytes);
}

abbrev pub decreases-reads : goal.decreases-reads
decreases-reads g l = l.size - vec_len l.piece
