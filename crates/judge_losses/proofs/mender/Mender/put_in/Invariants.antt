use Rattle.std.proofs.Common.{◌≡◌, ◌+◌, List, ◌++◌}
use Rattle.tftp_packet.specs.Hosts.{Datagram, Header}
use Rattle.tftp_packet.specs.{In, Out}
use Rattle.tftp_judge.specs.{IsJudgeAfter}
use Rattle.judge_losses.specs.Places.{going}
use Rattle.judge_losses.proofs.mender.Mender.put_in.Given as goal

-- what was put in so far, of which so many came in and went out
abbrev pub invariant-loop-turn : goal.invariant-loop-turn
invariant-loop-turn l = record {
  puts : (h : Header) (all : List Datagram) → IsJudgeAfter l.fn.self.judge h all
      → (put : List Datagram) × IsJudgeAfter l.self.judge h (put ++ all) × (l.put.came ≡ going In put) × (l.put.sent ≡ going Out put);
  turns : l.put.came + l.put.sent ≡ l.turn;
  places : l.self.places ≡ l.fn.self.places;
  recorded : l.self.recorded ≡ l.fn.self.recorded;
  gave_up : l.self.gave_up ≡ l.fn.self.gave_up;
}
