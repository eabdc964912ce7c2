use Rattle.std.proofs.Common.{◌≡◌, ◌<◌, ◌-◌, ◌^◌, false}
use Rattle.std.specs.Io.KnownBytes.{prepend_known}
use Rattle.net_streams.specs.{Standing}
use Rattle.tftp_judge.proofs.Follows.{Follows}
use Rattle.tftp_judge.proofs.text.judge_text.Given as goal

-- the reader goes on and no read has failed; the judge stands for the datagrams that the reader gave, each on a line of its own
abbrev pub invariant-loop-datagram : goal.invariant-loop-datagram
invariant-loop-datagram g l = record {
  goes : l.capture.standing ≡ Standing.Open;
  clean : l.reader.1 ≡ false;
  lines : l.judge.fed < l.capture.handed;
  follows : Follows l.fn.rollover (g.R.Read.remaining l.fn.reader.0) (prepend_known l.capture.lines.ahead (g.R.Read.remaining l.reader.0)) l.capture l.judge;
}

abbrev pub decreases-loop-datagram : goal.decreases-loop-datagram
decreases-loop-datagram g l = 2 ^ 40 - l.capture.handed
