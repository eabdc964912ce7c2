use Rattle.std.proofs.Common.{refl, subst, sym}
use Rattle.audit_views.specs.Texts.{IsComment}
use Rattle.audit_recording.proofs.SessionLemmas.Texts.{frame_comment}
use Rattle.audit_recording.proofs.session.kept.comment_of.Goals as goal

pub of-requires : goal.of-requires
of-requires c = record { comment = subst IsComment (sym c.in_ok-words.ensures.words) (frame_comment c.args.frame c.args.time c.ranges.frame.fits (c.in_ok-words.ensures.short refl)) }
