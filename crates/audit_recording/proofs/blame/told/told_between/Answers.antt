use Rattle.std.proofs.Common.{rules, ◌≡◌, Some, subst, sym, ap, ◌∙◌, true}
use Rattle.audit_flows.specs.Transfers.{is_settled}
use Rattle.audit_recording.specs.Blame.Kept.{Accepts}
use Rattle.audit_recording.specs.declared.rows.row.Point.TheVariants.{Between}
use Rattle.audit_recording.proofs.BlameLemmas.Telling.{accepts_between, refuses_between}
use Rattle.audit_recording.proofs.blame.told.told_between.Goals as goal

pub returns-in-None : goal.returns-in-None
returns-in-None c rollover x whole own number ends after =
    let on : c.is_settled.result ≡ true = search rules in
    let settled : is_settled x.number whole ≡ true = ap (λ n. is_settled n whole) (sym number) ∙ sym (c.is_settled.ensures whole ends) ∙ on in
    subst (λ n. Accepts rollover Between x whole n) (sym c.fed.ensures) (accepts_between rollover c.args.judge.now x whole own settled after c.refused.ensures.apart (sym c.refused.ensures.refused ∙ c.in-None.is))

pub returns-in-Some-Unlawful : goal.returns-in-Some-Unlawful
returns-in-Some-Unlawful c rollover x whole own number ends after =
    let on : c.is_settled.result ≡ true = search rules in
    let settled : is_settled x.number whole ≡ true = ap (λ n. is_settled n whole) (sym number) ∙ sym (c.is_settled.ensures whole ends) ∙ on in
    refuses_between rollover c.args.judge.now x whole own settled after c.refused.ensures.apart c.in-Some-Unlawful.number _ _ (sym c.refused.ensures.refused ∙ c.in-Some-Unlawful.is ∙ ap (λ r. Some r) c.in-Some-Unlawful.field-0-is)
