use Rattle.std.proofs.Common.{◌∙◌}
use Rattle.audit_recording.proofs.session.kept.note_in.Goals as goal

pub returns-clause-after : goal.returns-clause-after
returns-clause-after c name w older after fed says = c.note.ensures.after name w older after fed (c.in_ok-comment.ensures ∙ says)
