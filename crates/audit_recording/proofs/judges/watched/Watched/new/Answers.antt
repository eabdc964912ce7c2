use Rattle.std.proofs.Common.{refl, subst, []}
use Rattle.audit_recording.specs.Judges.{AreAt, AreJudgesAfter}
use Rattle.audit_recording.proofs.judges.watched.Watched.new.Goals as goal

pub returns-clause-stands : goal.returns-clause-stands
returns-clause-stands g c name = record {
  transfer = refl;
  points = subst (AreAt c.new.result) c.points.ensures c.new.ensures.points;
  judges = subst (λ o. AreJudgesAfter o c.new.result c.args.transfer name []) c.rollover.ensures (c.new.ensures.after name);
  number = c.new-2.ensures.number;
  doubts = c.new-2.ensures.stands;
}
