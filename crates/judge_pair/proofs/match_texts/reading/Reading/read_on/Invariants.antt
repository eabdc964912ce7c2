use Rattle.std.proofs.Common.{◌≡◌, ◌<◌, ◌≤◌, ◌-◌, ◌^◌, None}
use Rattle.tftp_packet.specs.{End}
use Rattle.net_streams.specs.{Standing}
use Rattle.law_model.specs.Model.Roles.{other_end}
use Rattle.judge_pair.specs.Judge.{HasSame, IsNumbered, side_at}
use Rattle.judge_pair.specs.MatchTexts.{Runs, judge_at, seen}
use Rattle.judge_pair.proofs.match_texts.reading.Reading.read_on.Given as goal

-- more is to be read and nothing waits
abbrev pub invariant-loop-alloc : goal.invariant-loop-alloc
invariant-loop-alloc g l = record {
  goes : l.self.halt ≡ None;
  ready : l.self.capture.standing ≡ Standing.Open;
  lines : (judge_at l.end l.pair).fed < l.self.capture.handed;
  free : (side_at l.end l.pair).held ≡ None;
  grows : l.fn.self.capture.handed ≤ l.self.capture.handed;
  runs : Runs l.rollover l.end (seen (g.R.Read.remaining l.fn.reader.0) l.fn.reader.1 l.fn.self.halt l.fn.self.capture) l.fn.pair (seen (g.R.Read.remaining l.reader.0) l.reader.1 l.self.halt l.self.capture) l.pair;
  numbered : (e : End) → IsNumbered (side_at e l.fn.pair) → IsNumbered (side_at e l.pair);
  other : HasSame (side_at (other_end l.end) l.fn.pair) (side_at (other_end l.end) l.pair);
}

abbrev pub decreases-loop-alloc : goal.decreases-loop-alloc
decreases-loop-alloc g l = 2 ^ 40 - l.self.capture.handed
