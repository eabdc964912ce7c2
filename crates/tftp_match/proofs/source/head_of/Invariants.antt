use Rattle.std.proofs.Common.{◌≡◌, ◌≤◌, length}
use Rattle.std.specs.Io.KnownBytes.{Consumes}
use Rattle.tftp_match.proofs.source.head_of.Given as goal

-- so many bytes were read, and these are they
abbrev pub invariant-loop : goal.invariant-loop
invariant-loop g l = record {
  consumed : Consumes (g.R.Read.remaining l.fn.reader) (g.R.Read.remaining l.reader) l.head.items;
  many : length l.head.items ≡ l.counter;
  within : l.counter ≤ 4;
}
