use Rattle.std.proofs.Common.{◌≤◌, map, reverse, take}
use Rattle.tftp_capture.specs.{datagram_of, header_of}
use Rattle.tftp_judge.specs.{IsJudgeAfter}
use Rattle.example_judge.proofs.audit.Given as goal

-- the judge stands for the datagrams that were fed, and counts them
abbrev pub invariant-loop-datagram : goal.invariant-loop-datagram
invariant-loop-datagram l = record {
  after : IsJudgeAfter l.judge (header_of l.header) (reverse (map datagram_of (take l.datagram-index l.datagrams)));
  counted : l.judge.fed ≤ l.datagram-index;
}
