use Rattle.std.proofs.Common.{◌≡◌, length, take, ◌-◌, ◌≤◌}
use Rattle.std.specs.Io.KnownBytes.{Appends}
use Rattle.tftp_rows.proofs.output.Output.write_whole.Given as goal

-- the first bytes are written, and no write has failed
abbrev pub invariant-loop-written : goal.invariant-loop-written
invariant-loop-written g l = record {
  within : l.written ≤ length l.bytes;
  appended : Appends (g.W.Write.contents l.initial.self.0) (g.W.Write.contents l.self.0) (take l.written l.bytes);
  same : l.self.1 ≡ l.initial.self.1;
}

abbrev pub decreases-loop-written : goal.decreases-loop-written
decreases-loop-written g l = length l.bytes - l.written
