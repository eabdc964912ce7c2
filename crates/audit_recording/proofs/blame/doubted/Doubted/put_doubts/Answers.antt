use Rattle.std.proofs.Common.{ap, refl, subst, sym, ◌∙◌, ◌++◌, ◌≢◌, []}
use Rattle.audit_recording.specs.Reasons.Listed.{where_so}
use Rattle.audit_recording.specs.declared.blame.reason.Reason.TheVariants.{AnsweredApart, AskedAgain, Disordered, FollowsStrays, FollowsUnanswered}
use Rattle.audit_recording.proofs.ReasonsLemmas.Listed.{holding, left, listed, more, more_of, on_ok, right}
use Rattle.audit_recording.proofs.blame.doubted.Doubted.put_doubts.Goals as goal

pub returns-clause-added : goal.returns-clause-added
returns-clause-added c = λ placed stands.
    on_ok c.put_if-5.result (λ last.
    more _ _ _ _ _ (last ∙ ap (λ so. c.put_if-4.new.reasons.items ++ where_so FollowsStrays so) (c.follows_strays.ensures placed stands))
    (more _ _ _ _ _ (c.in_ok-put_if-4.ensures.added ∙ ap (λ so. c.put_if-3.new.reasons.items ++ where_so AnsweredApart so) (c.is_answered_apart.ensures placed stands))
    (more _ _ _ _ _ (c.in_ok-put_if-3.ensures.added ∙ ap (λ so. c.put_if-2.new.reasons.items ++ where_so AskedAgain so) (c.is_asked_again.ensures placed stands))
    (more _ _ _ _ _ (c.in_ok-put_if-2.ensures.added ∙ ap (λ so. c.put_some.new.reasons.items ++ where_so FollowsUnanswered so) (c.follows_unanswered.ensures placed stands))
    (more_of _ _ _ _ _ _ c.in_ok-put_some.ensures.added c.left_out.ensures
    (c.in_ok-put_if.ensures.added ∙ ap (λ so. c.args.reasons.now.items ++ where_so Disordered so) (c.is_disordered.ensures placed stands)))))))
    c.put_if-5.ensures.added

pub returns-in_err-put_if-clause-spare : goal.returns-in_err-put_if-clause-spare
returns-in_err-put_if-clause-spare c = λ placed stands failed. left _ _ (left _ _ (left _ _ (left _ _ (left _ _ (holding Disordered _ (sym (c.is_disordered.ensures placed stands) ∙ c.in_err-put_if.ensures.spare refl))))))

pub returns-in_err-put_some-clause-spare : goal.returns-in_err-put_some-clause-spare
returns-in_err-put_some-clause-spare c = λ placed stands failed. left _ _ (left _ _ (left _ _ (left _ _ (right _ _ (subst (λ reasons. reasons ≢ []) c.left_out.ensures (listed _ (c.in_err-put_some.ensures.spare refl)))))))

pub returns-in_err-put_if-2-clause-spare : goal.returns-in_err-put_if-2-clause-spare
returns-in_err-put_if-2-clause-spare c = λ placed stands failed. left _ _ (left _ _ (left _ _ (right _ _ (holding FollowsUnanswered _ (sym (c.follows_unanswered.ensures placed stands) ∙ c.in_err-put_if-2.ensures.spare refl)))))

pub returns-in_err-put_if-3-clause-spare : goal.returns-in_err-put_if-3-clause-spare
returns-in_err-put_if-3-clause-spare c = λ placed stands failed. left _ _ (left _ _ (right _ _ (holding AskedAgain _ (sym (c.is_asked_again.ensures placed stands) ∙ c.in_err-put_if-3.ensures.spare refl))))

pub returns-in_err-put_if-4-clause-spare : goal.returns-in_err-put_if-4-clause-spare
returns-in_err-put_if-4-clause-spare c = λ placed stands failed. left _ _ (right _ _ (holding AnsweredApart _ (sym (c.is_answered_apart.ensures placed stands) ∙ c.in_err-put_if-4.ensures.spare refl)))

pub returns-clause-spare : goal.returns-clause-spare
returns-clause-spare c = λ placed stands failed. right _ _ (holding FollowsStrays _ (sym (c.follows_strays.ensures placed stands) ∙ c.put_if-5.ensures.spare failed))
