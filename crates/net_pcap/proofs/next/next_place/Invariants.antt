use Rattle.std.proofs.Common.{◌≡◌, ◌-◌, ◌^◌, ◌≤◌, ◌++◌, ℕ, List, vec_capacity}
use Rattle.std.specs.Io.KnownBytes.{prepend_known, Consumes}
use Rattle.net_pcap.specs.{FrameParts, Stands}
use Rattle.net_pcap.proofs.next.next_place.Given as goal

abbrev pub invariant-pieces : goal.invariant-pieces
invariant-pieces g l = record {
  tally : l.reader.1 ≡ l.fn.reader.1;
  roomy : vec_capacity l.fn.piece ≤ vec_capacity l.piece;
  places : l.fn.pieces.room ≤ l.pieces.room;
  grows : l.fn.pieces.count ≤ l.pieces.count;
  reaches : (bytes : List ℕ) (frames : List FrameParts) → Stands bytes l.fn.pieces.mode l.fn.pieces.count frames
      → (taken : List ℕ) × Consumes (prepend_known l.fn.pieces.ahead (g.R.Read.remaining l.fn.reader.0)) (prepend_known l.pieces.ahead (g.R.Read.remaining l.reader.0)) taken
      × Stands (bytes ++ taken) l.pieces.mode l.pieces.count frames;
}

abbrev pub decreases-pieces : goal.decreases-pieces
decreases-pieces g l = 2 ^ 40 - l.pieces.count
