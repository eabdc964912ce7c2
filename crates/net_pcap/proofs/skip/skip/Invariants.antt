use Rattle.std.proofs.Common.{◌≡◌, ◌+◌, ℕ, List, length}
use Rattle.std.specs.Io.KnownBytes.{prepend_known, Consumes}
use Rattle.net_pcap.proofs.skip.skip.Given as goal

abbrev pub invariant-reads : goal.invariant-reads
invariant-reads g l = record {
  tally : l.reader.1 ≡ l.fn.reader.1;
  taken : (bytes : List ℕ) × Consumes (prepend_known l.fn.ahead.bytes (g.R.Read.remaining l.fn.reader.0)) (prepend_known l.ahead.bytes (g.R.Read.remaining l.reader.0)) bytes × (length bytes + l.left ≡ l.count);
}

abbrev pub decreases-reads : goal.decreases-reads
decreases-reads g l = l.left
