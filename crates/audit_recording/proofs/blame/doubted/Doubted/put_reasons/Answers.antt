use Rattle.std.proofs.Common.{ap, refl, sym, ◌∙◌, ◌++◌}
use Rattle.audit_recording.specs.Reasons.Listed.{where_so}
use Rattle.audit_recording.specs.declared.blame.reason.Reason.TheVariants.{Beside, FirstWord, LedAstray, OneWay, TurnedAway, Twice, UnknownId}
use Rattle.audit_recording.proofs.ReasonsLemmas.Listed.{holding, left, more, on_ok, right}
use Rattle.audit_recording.proofs.blame.doubted.Doubted.put_reasons.Goals as goal

pub returns-clause-added : goal.returns-clause-added
returns-clause-added c = λ placed stands.
    on_ok c.put_frames.result (λ framed.
    more _ _ _ _ _ framed
    (more _ _ _ _ _ c.in_ok-put_if-8.ensures.added
    (more _ _ _ _ _ (c.in_ok-put_if-7.ensures.added ∙ ap (λ so. c.put_if-6.new.reasons.items ++ where_so OneWay so) c.is_one_way_for.ensures)
    (more _ _ _ _ _ c.in_ok-put_if-6.ensures.added
    (more _ _ _ _ _ c.in_ok-put_if-5.ensures.added
    (more _ _ _ _ _ (c.in_ok-put_if-4.ensures.added ∙ ap (λ so. c.put_if-3.new.reasons.items ++ where_so TurnedAway so) (c.is_turned_away.ensures placed stands))
    (more _ _ _ _ _ (c.in_ok-put_if-3.ensures.added ∙ ap (λ so. c.put_if-2.new.reasons.items ++ where_so LedAstray so) (c.is_led_astray.ensures placed stands))
    (more _ _ _ _ _ c.in_ok-put_if-2.ensures.added
    (more _ _ _ _ _ c.in_ok-put_if.ensures.added
    (c.in_ok-put_doubts.ensures.added placed stands))))))))))
    c.put_frames.ensures.added

pub returns-clause-spare : goal.returns-clause-spare
returns-clause-spare c = λ placed stands failed. right _ _ (c.put_frames.ensures.spare failed)

pub returns-in_err-put_doubts-clause-spare : goal.returns-in_err-put_doubts-clause-spare
returns-in_err-put_doubts-clause-spare c = λ placed stands failed. left _ _ (left _ _ (left _ _ (left _ _ (left _ _ (left _ _ (left _ _ (left _ _ (left _ _ (c.in_err-put_doubts.ensures.spare placed stands refl)))))))))

pub returns-in_err-put_if-2-clause-spare : goal.returns-in_err-put_if-2-clause-spare
returns-in_err-put_if-2-clause-spare c = λ placed stands failed. left _ _ (left _ _ (left _ _ (left _ _ (left _ _ (left _ _ (left _ _ (right _ _ (holding Beside _ (c.in_err-put_if-2.ensures.spare refl)))))))))

pub returns-in_err-put_if-3-clause-spare : goal.returns-in_err-put_if-3-clause-spare
returns-in_err-put_if-3-clause-spare c = λ placed stands failed. left _ _ (left _ _ (left _ _ (left _ _ (left _ _ (left _ _ (right _ _ (holding LedAstray _ (sym (c.is_led_astray.ensures placed stands) ∙ c.in_err-put_if-3.ensures.spare refl))))))))

pub returns-in_err-put_if-4-clause-spare : goal.returns-in_err-put_if-4-clause-spare
returns-in_err-put_if-4-clause-spare c = λ placed stands failed. left _ _ (left _ _ (left _ _ (left _ _ (left _ _ (right _ _ (holding TurnedAway _ (sym (c.is_turned_away.ensures placed stands) ∙ c.in_err-put_if-4.ensures.spare refl)))))))

pub returns-in_err-put_if-5-clause-spare : goal.returns-in_err-put_if-5-clause-spare
returns-in_err-put_if-5-clause-spare c = λ placed stands failed. left _ _ (left _ _ (left _ _ (left _ _ (right _ _ (holding UnknownId _ (c.in_err-put_if-5.ensures.spare refl))))))

pub returns-in_err-put_if-6-clause-spare : goal.returns-in_err-put_if-6-clause-spare
returns-in_err-put_if-6-clause-spare c = λ placed stands failed. left _ _ (left _ _ (left _ _ (right _ _ (holding FirstWord _ (c.in_err-put_if-6.ensures.spare refl)))))

pub returns-in_err-put_if-7-clause-spare : goal.returns-in_err-put_if-7-clause-spare
returns-in_err-put_if-7-clause-spare c = λ placed stands failed. left _ _ (left _ _ (right _ _ (holding OneWay _ (sym c.is_one_way_for.ensures ∙ c.in_err-put_if-7.ensures.spare refl))))

pub returns-in_err-put_if-8-clause-spare : goal.returns-in_err-put_if-8-clause-spare
returns-in_err-put_if-8-clause-spare c = λ placed stands failed. left _ _ (right _ _ (holding Twice _ (c.in_err-put_if-8.ensures.spare refl)))
