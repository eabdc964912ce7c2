use Rattle.audit_recording.proofs.blame.trail.Trail.leave_out.Goals as goal

pub returns-clause-stands : goal.returns-clause-stands
returns-clause-stands c judging x named carried was = record {
  transfer = was.transfer;
  number = was.number;
  ends = was.ends;
  first = was.first;
  last = was.last;
  count = was.count;
  last_time = was.last_time;
  is_answered = was.is_answered;
  has_gone_on = was.has_gone_on;
  options = was.options;
  twice = was.twice;
  copied_from = was.copied_from;
  damaged = was.damaged;
  spoilt = was.spoilt;
  joined = was.joined;
  goes_on = was.goes_on;
  closing = was.closing;
  blame = was.blame;
}
