use Rattle.std.proofs.Common.{Some, ap, subst, sym, ◌∙◌}
use Rattle.audit_recording.specs.Blame.Kept.{Accepts}
use Rattle.audit_recording.specs.declared.rows.row.Point.TheVariants.{Client}
use Rattle.audit_recording.proofs.BlameLemmas.Telling.{accepts_at_client, refuses_at_client}
use Rattle.audit_recording.proofs.blame.told.told_by_client.Goals as goal

pub returns-in-None : goal.returns-in-None
returns-in-None c rollover x whole own after =
    subst (λ n. Accepts rollover Client x whole n) (sym c.fed.ensures) (accepts_at_client rollover c.args.judge.now x whole own (sym c.refused.ensures ∙ c.in-None.is) after)

pub returns-in-Some-Unlawful : goal.returns-in-Some-Unlawful
returns-in-Some-Unlawful c rollover x whole own after =
    refuses_at_client rollover c.args.judge.now x whole c.in-Some-Unlawful.number _ own (sym c.refused.ensures ∙ c.in-Some-Unlawful.is ∙ ap (λ r. Some r) c.in-Some-Unlawful.field-0-is) after
