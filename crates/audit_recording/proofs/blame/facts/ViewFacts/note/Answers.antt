use Rattle.std.proofs.Common.{subst}
use Rattle.audit_recording.specs.Blame.Kept.{IsTold}
use Rattle.audit_recording.proofs.blame.facts.ViewFacts.note.Goals as goal

pub returns-in-Accepted : goal.returns-in-Accepted
returns-in-Accepted c rollover x whole frames are own ends all told =
    c.forget.ensures rollover c.args.point x whole frames are all (subst (IsTold rollover c.args.point x whole) c.in-Accepted.is told)

pub returns-in-Refused : goal.returns-in-Refused
returns-in-Refused c rollover x whole frames are own ends all told =
    c.refuse.ensures rollover x whole frames are own ends (subst (IsTold rollover c.args.point x whole) c.in-Refused.is told)
