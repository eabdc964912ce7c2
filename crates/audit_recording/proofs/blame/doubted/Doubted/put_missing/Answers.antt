use Rattle.std.proofs.Common.{subst, refl, ◌≢◌, []}
use Rattle.audit_recording.proofs.ReasonsLemmas.Listed.{begun, left, listed, more_of, on_ok, right}
use Rattle.audit_recording.proofs.blame.doubted.Doubted.put_missing.Goals as goal

pub returns-clause-added : goal.returns-clause-added
returns-clause-added c =
    on_ok c.put_some-2.result (λ last. more_of _ _ _ _ _ _ last c.lost_in.ensures (begun _ _ _ _ c.in_ok-put_some.ensures.added c.left_out.ensures))
    c.put_some-2.ensures.added

pub returns-in_err-put_some-clause-spare : goal.returns-in_err-put_some-clause-spare
returns-in_err-put_some-clause-spare c = λ failed. left _ _ (subst (λ reasons. reasons ≢ []) c.left_out.ensures (listed _ (c.in_err-put_some.ensures.spare refl)))

pub returns-clause-spare : goal.returns-clause-spare
returns-clause-spare c = λ failed. right _ _ (subst (λ reasons. reasons ≢ []) c.lost_in.ensures (listed _ (c.put_some-2.ensures.spare failed)))
