use Rattle.std.proofs.Common.{◌≡◌, ◌<◌, ◌-◌, ◌^◌}
use Rattle.std.specs.Io.KnownBytes.{prepend_known}
use Rattle.net_streams.specs.{Standing}
use Rattle.judge_losses.proofs.Reading.{MendsOn}
use Rattle.judge_losses.proofs.text.missing_with.Given as goal

-- the reader goes on, and the mender stands for the datagrams that it gave, each on a line of its own
abbrev pub invariant-loop-datagram : goal.invariant-loop-datagram
invariant-loop-datagram g l = record {
  goes : l.capture.standing ≡ Standing.Open;
  lines : l.mender.recorded < l.capture.handed;
  mends : MendsOn (g.R.Read.remaining l.fn.reader.0) (prepend_known l.capture.lines.ahead (g.R.Read.remaining l.reader.0)) l.capture l.mender;
}

abbrev pub decreases-loop-datagram : goal.decreases-loop-datagram
decreases-loop-datagram g l = 2 ^ 40 - l.capture.handed
