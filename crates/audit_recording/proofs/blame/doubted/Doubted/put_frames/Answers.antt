use Rattle.std.proofs.Common.{ap, subst, refl, ◌∙◌, ◌≢◌, []}
use Rattle.audit_recording.specs.Reasons.Listed.{with_frame}
use Rattle.audit_recording.specs.declared.blame.reason.Reason.TheVariants.{Copied, Damaged, Discarded, Joined, Lost}
use Rattle.audit_recording.proofs.ReasonsLemmas.Listed.{begun, left, listed, more_of, on_ok, right}
use Rattle.audit_recording.proofs.blame.doubted.Doubted.put_frames.Goals as goal

pub returns-clause-added : goal.returns-clause-added
returns-clause-added c =
    on_ok c.put_some-5.result (λ last.
    more_of _ _ _ _ _ _ last (c.joined_in.ensures ∙ ap (λ frame. with_frame (λ n. Joined n) frame) c.up_to-5.ensures)
    (more_of _ _ _ _ _ _ c.in_ok-put_some-4.ensures.added (c.discarded_in.ensures ∙ ap (λ frame. with_frame (λ n. Discarded n) frame) c.up_to-4.ensures)
    (more_of _ _ _ _ _ _ c.in_ok-put_some-3.ensures.added (c.damaged_in.ensures ∙ ap (λ frame. with_frame (λ n. Damaged n) frame) c.up_to-3.ensures)
    (more_of _ _ _ _ _ _ c.in_ok-put_some-2.ensures.added (c.copied_from.ensures ∙ ap (λ frame. with_frame (λ n. Copied n) frame) c.up_to-2.ensures)
    (begun _ _ _ _ c.in_ok-put_some.ensures.added (c.lost_in.ensures ∙ ap (λ frame. with_frame (λ n. Lost n) frame) c.up_to.ensures))))))
    c.put_some-5.ensures.added

pub returns-in_err-put_some-clause-spare : goal.returns-in_err-put_some-clause-spare
returns-in_err-put_some-clause-spare c = λ failed. left _ _ (left _ _ (left _ _ (left _ _ (subst (λ reasons. reasons ≢ []) (c.lost_in.ensures ∙ ap (λ frame. with_frame (λ n. Lost n) frame) c.up_to.ensures) (listed _ (c.in_err-put_some.ensures.spare refl))))))

pub returns-in_err-put_some-2-clause-spare : goal.returns-in_err-put_some-2-clause-spare
returns-in_err-put_some-2-clause-spare c = λ failed. left _ _ (left _ _ (left _ _ (right _ _ (subst (λ reasons. reasons ≢ []) (c.copied_from.ensures ∙ ap (λ frame. with_frame (λ n. Copied n) frame) c.up_to-2.ensures) (listed _ (c.in_err-put_some-2.ensures.spare refl))))))

pub returns-in_err-put_some-3-clause-spare : goal.returns-in_err-put_some-3-clause-spare
returns-in_err-put_some-3-clause-spare c = λ failed. left _ _ (left _ _ (right _ _ (subst (λ reasons. reasons ≢ []) (c.damaged_in.ensures ∙ ap (λ frame. with_frame (λ n. Damaged n) frame) c.up_to-3.ensures) (listed _ (c.in_err-put_some-3.ensures.spare refl)))))

pub returns-in_err-put_some-4-clause-spare : goal.returns-in_err-put_some-4-clause-spare
returns-in_err-put_some-4-clause-spare c = λ failed. left _ _ (right _ _ (subst (λ reasons. reasons ≢ []) (c.discarded_in.ensures ∙ ap (λ frame. with_frame (λ n. Discarded n) frame) c.up_to-4.ensures) (listed _ (c.in_err-put_some-4.ensures.spare refl))))

pub returns-clause-spare : goal.returns-clause-spare
returns-clause-spare c = λ failed. right _ _ (subst (λ reasons. reasons ≢ []) (c.joined_in.ensures ∙ ap (λ frame. with_frame (λ n. Joined n) frame) c.up_to-5.ensures) (listed _ (c.put_some-5.ensures.spare failed)))
