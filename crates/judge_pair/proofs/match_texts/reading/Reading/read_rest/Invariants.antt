use Rattle.std.proofs.Common.{◌≡◌, ◌<◌, ◌-◌, ◌^◌, true, is_some, None, Some}
use Rattle.tftp_packet.specs.{Rollover}
use Rattle.net_streams.specs.{Standing}
use Rattle.law_model.specs.Model.Roles.{other_end}
use Rattle.judge_pair.specs.Judge.{IsNumbered, left_at}
use Rattle.judge_pair.specs.MatchTexts.{RestRuns, left_judge_at, seen}
use Rattle.judge_pair.proofs.match_texts.reading.Reading.read_rest.Given as goal

-- more is to be read
abbrev pub invariant-loop-alloc : goal.invariant-loop-alloc
invariant-loop-alloc g l = record {
  goes : l.self.halt ≡ None;
  ready : l.self.capture.standing ≡ Standing.Open;
  lines : (left_judge_at l.end l.rest).fed < l.self.capture.handed;
  waited : is_some (left_at l.end l.rest).side.held ≡ true;
  numbered : (r : Rollover) → l.rollover ≡ Some r → IsNumbered (left_at l.end l.rest).side;
  runs : RestRuns l.rollover l.end (seen (g.R.Read.remaining l.fn.reader.0) l.fn.reader.1 l.fn.self.halt l.fn.self.capture) l.fn.rest (seen (g.R.Read.remaining l.reader.0) l.reader.1 l.self.halt l.self.capture) l.rest;
  other : left_at (other_end l.end) l.rest ≡ left_at (other_end l.end) l.fn.rest;
}

abbrev pub decreases-loop-alloc : goal.decreases-loop-alloc
decreases-loop-alloc g l = 2 ^ 40 - l.self.capture.handed
