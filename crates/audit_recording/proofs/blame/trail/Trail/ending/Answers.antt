use Rattle.std.proofs.Common.{sym, ap, ◌∙◌}
use Rattle.audit_recording.specs.Blame.Frames.{view_of}
use Rattle.audit_recording.specs.Endings.Told.{first_stop}
use Rattle.audit_recording.specs.declared.rows.row.Point.TheVariants.{Client}
use Rattle.audit_recording.proofs.blame.trail.Trail.ending.Goals as goal

pub returns-in-Some : goal.returns-in-Some
returns-in-Some c judging x named carried was =
    let view = view_of Client x.number named carried in (
      c.if-is_whole.false,
      sym (c.in-Some.ensures x view was.closing ∙ ap (λ e. first_stop x e view) (c.server.ensures judging x named carried was)),
    )

pub returns-in-Some-last : goal.returns-in-Some-last
returns-in-Some-last c judging x named carried was =
    let view = view_of Client x.number named carried in (
      c.if-is_whole.false,
      sym (c.in-None.ensures x view was.closing ∙ ap (λ e. first_stop x e view) (c.server.ensures judging x named carried was)),
      sym was.closing.last ∙ c.in-Some-last.is,
      c.seconds_since.ensures,
    )

pub returns-in-None-last : goal.returns-in-None-last
returns-in-None-last c judging x named carried was =
    let view = view_of Client x.number named carried in (
      c.if-is_whole.false,
      sym (c.in-None.ensures x view was.closing ∙ ap (λ e. first_stop x e view) (c.server.ensures judging x named carried was)),
      sym was.closing.last ∙ c.in-None-last.is,
    )
