use Rattle.std.proofs.Common.{◌≡◌, ◌<◌, ◌-◌, ◌^◌, None}
use Rattle.net_streams.specs.{Standing}
use Rattle.judge_pair.specs.MatchTexts.{AloneRuns, seen}
use Rattle.judge_pair.proofs.match_texts.reading.Reading.read_alone.Given as goal

-- more is to be read
abbrev pub invariant-loop-alloc : goal.invariant-loop-alloc
invariant-loop-alloc g l = record {
  goes : l.self.halt ≡ None;
  ready : l.self.capture.standing ≡ Standing.Open;
  lines : l.judge.fed < l.self.capture.handed;
  runs : AloneRuns l.rollover (seen (g.R.Read.remaining l.fn.reader.0) l.fn.reader.1 l.fn.self.halt l.fn.self.capture) l.fn.judge (seen (g.R.Read.remaining l.reader.0) l.reader.1 l.self.halt l.self.capture) l.judge;
}

abbrev pub decreases-loop-alloc : goal.decreases-loop-alloc
decreases-loop-alloc g l = 2 ^ 40 - l.self.capture.handed
