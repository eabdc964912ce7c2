use Rattle.std.proofs.Common.{refl}
use Rattle.audit_recording.specs.Blame.Frames.{framed, whole_of}
use Rattle.audit_recording.proofs.BlameLemmas.Trailing.{trail_new}
use Rattle.audit_recording.proofs.blame.trail.Trail.new.Goals as goal

pub returns-clause-stands : goal.returns-clause-stands
returns-clause-stands c judging named carried unheard =
    trail_new _ judging c.args.transfer named carried unheard refl c.new.ensures.number c.new.ensures.stands refl refl refl refl refl c.none.ensures refl refl refl refl refl
    c.new-2.ensures
    (c.new-3.ensures c.args.transfer)
    (c.new-4.ensures.ends judging c.args.transfer (whole_of named carried) (framed named carried) unheard)

pub returns-clause-between : goal.returns-clause-between
returns-clause-between c judging named carried unheard = c.new-4.ensures.between judging c.args.transfer (whole_of named carried) (framed named carried) unheard
