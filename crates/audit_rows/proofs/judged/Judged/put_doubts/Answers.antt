use Rattle.std.proofs.Common.{ap, refl, sym, ◌∙◌, ◌++◌}
use Rattle.audit_flows.specs.{Transfer}
use Rattle.audit_recording.specs.Blame.Frames.{whole_of}
use Rattle.audit_recording.specs.Reasons.Listed.{where_so}
use Rattle.audit_recording.specs.declared.blame.reason.Reason.TheVariants.{Unplaced, Unseen, SpeaksFirst, GoesOver, Stranger}
use Rattle.audit_recording.proofs.ReasonsLemmas.Listed.{holding, left, more, on_ok, right}
use Rattle.audit_rows.specs.Doubting.{goes_over}
use Rattle.audit_rows.proofs.judged.Judged.put_doubts.Goals as goal

pub returns-clause-added : goal.returns-clause-added
returns-clause-added c = λ judging x named carried is.
    on_ok c.put_reasons.result (λ told.
    more _ _ _ _ _ told
    (more _ _ _ _ _ (c.in_ok-put_if-5.ensures.added ∙ ap (λ so. c.put_if-4.new.reasons.items ++ where_so Stranger so) (c.is_strangers.ensures judging x named carried is))
    (more _ _ _ _ _ (c.in_ok-put_if-4.ensures.added ∙ ap (λ so. c.put_if-3.new.reasons.items ++ where_so GoesOver so)
    (c.goes_over.ensures ∙ ap (λ (y : Transfer). goes_over y c.args.told.now.telling c.args.blamed.now) is.trail.transfer))
    (more _ _ _ _ _ (c.in_ok-put_if-3.ensures.added ∙ ap (λ so. c.put_if-2.new.reasons.items ++ where_so SpeaksFirst so) c.is_spoken_first.ensures)
    (more _ _ _ _ _ (c.in_ok-put_if-2.ensures.added ∙ ap (λ so. c.put_if.new.reasons.items ++ where_so Unseen so) c.is_unseen.ensures)
    (c.in_ok-put_if.ensures.added ∙ ap (λ so. c.args.reasons.now.items ++ where_so Unplaced so) c.depends_on_place.ensures))))))
    (c.put_reasons.ensures.added (whole_of named carried) is.doubts)

pub returns-clause-spare : goal.returns-clause-spare
returns-clause-spare c = λ judging x named carried is failed.
    right _ _ (c.put_reasons.ensures.spare (whole_of named carried) is.doubts failed)

pub returns-in_err-put_if-clause-spare : goal.returns-in_err-put_if-clause-spare
returns-in_err-put_if-clause-spare c = λ judging x named carried is failed.
    left _ _ (left _ _ (left _ _ (left _ _ (left _ _ (holding Unplaced _ (sym c.depends_on_place.ensures ∙ c.in_err-put_if.ensures.spare refl))))))

pub returns-in_err-put_if-2-clause-spare : goal.returns-in_err-put_if-2-clause-spare
returns-in_err-put_if-2-clause-spare c = λ judging x named carried is failed.
    left _ _ (left _ _ (left _ _ (left _ _ (right _ _ (holding Unseen _ (sym c.is_unseen.ensures ∙ c.in_err-put_if-2.ensures.spare refl))))))

pub returns-in_err-put_if-3-clause-spare : goal.returns-in_err-put_if-3-clause-spare
returns-in_err-put_if-3-clause-spare c = λ judging x named carried is failed.
    left _ _ (left _ _ (left _ _ (right _ _ (holding SpeaksFirst _ (sym c.is_spoken_first.ensures ∙ c.in_err-put_if-3.ensures.spare refl)))))

pub returns-in_err-put_if-4-clause-spare : goal.returns-in_err-put_if-4-clause-spare
returns-in_err-put_if-4-clause-spare c = λ judging x named carried is failed.
    let over = sym (ap (λ (y : Transfer). goes_over y c.args.told.now.telling c.args.blamed.now) is.trail.transfer) ∙ sym c.goes_over.ensures in
    left _ _ (left _ _ (right _ _ (holding GoesOver _ (over ∙ c.in_err-put_if-4.ensures.spare refl))))

pub returns-in_err-put_if-5-clause-spare : goal.returns-in_err-put_if-5-clause-spare
returns-in_err-put_if-5-clause-spare c = λ judging x named carried is failed.
    left _ _ (right _ _ (holding Stranger _ (sym (c.is_strangers.ensures judging x named carried is) ∙ c.in_err-put_if-5.ensures.spare refl)))
