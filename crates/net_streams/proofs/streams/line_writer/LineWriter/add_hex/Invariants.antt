use Rattle.std.proofs.Common.{◌≤◌, ◌-◌, length, take}
use Rattle.hex.specs.Hex.{encode_lower}
use Rattle.net_streams.specs.Streams.{Added}
use Rattle.net_streams.proofs.streams.line_writer.LineWriter.add_hex.Given as goal

abbrev pub invariant-loop-done : goal.invariant-loop-done
invariant-loop-done g l = record {
  within : l.done ≤ length l.bytes;
  added : Added g.W.Write.contents l.initial.self l.self (encode_lower (take l.done l.bytes));
}

abbrev pub decreases-loop-done : goal.decreases-loop-done
decreases-loop-done g l = length l.bytes - l.done
