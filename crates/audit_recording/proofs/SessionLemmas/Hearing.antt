-- The reading of a frame, and then what it tells of datagrams that did not arrive.
use Rattle.std.proofs.Common.{◌≡◌, ◌∷◌, ℕ, List, length, inl, inr, sym, ap, subst, arith}
use Rattle.net_udp.specs.Recording.{EventState, Step}
use Rattle.audit_recording.specs.Blame.Frames.{Carried}
use Rattle.audit_recording.specs.Session.Heard.{AreUnreachedKept, IsFrameOf}
use Rattle.audit_recording.specs.Session.Kept.{AddsFrame, IsReadAfter, IsSessionAfter}
use Rattle.audit_recording.specs.Session.Noted.{Noticed}
use Rattle.audit_recording.specs.declared.session.session.Session.{Session}
use Rattle.audit_recording.specs.declared.session.unreached.Unreached.{Unreached}
use Rattle.audit_recording.proofs.SessionLemmas.Heard.{unreached_with}

pub as_read : (session : Session) (named out : List ℕ) (history : List Step) (carried : List Carried) (s : Noticed) → IsSessionAfter session named out history carried s → IsReadAfter session named out history carried s
as_read session named out history carried s is = record {
  noticed = is.noticed;
  kept = record { audit = is.kept.audit; notes = is.kept.notes; trails = is.kept.trails; texts = is.kept.texts; beside = is.kept.beside };
}

pub as_heard : (session : Session) (unreached : Unreached) (named out : List ℕ) (history : List Step) (carried : List Carried) (s : Noticed) → IsReadAfter session named out history carried s
    → AreUnreachedKept unreached named out history carried → IsSessionAfter (record session { unreached = unreached }) named out history carried s
as_heard session unreached named out history carried s is kept = record {
  noticed = is.noticed;
  kept = record { audit = is.kept.audit; notes = is.kept.notes; trails = is.kept.trails; texts = is.kept.texts; beside = is.kept.beside; unreached = kept };
}

not_longer : {A : Type 0} (x : A) (xs : List A) → x ∷ xs ≡ xs → ⊥
not_longer x xs same = let long : length (x ∷ xs) ≡ length xs = ap length same in omega (arith, long)

module _ (history : List Step) (carried : List Carried) (event : EventState) (step : Step) (all : List Carried) where
  pub frame_added : AddsFrame history carried event (step ∷ history) all → IsFrameOf step history event
  frame_added (inl (same, rest)) = absurd (not_longer step history same)
  frame_added (inr (other, same, of, rest)) = let one : other ≡ step = cc in subst (λ k. IsFrameOf k history event) one of

  pub kept_before : (m : Unreached) (named out : List ℕ) → AddsFrame history carried event (step ∷ history) all → AreUnreachedKept m named out history carried → AreUnreachedKept m named out history all
  kept_before m named out (inl (same, rest)) kept = absurd (not_longer step history same)
  kept_before m named out (inr (other, same, of, inl none)) kept = subst (AreUnreachedKept m named out history) (sym none) kept
  kept_before m named out (inr (other, same, of, inr (c, more, at))) kept =
      let number = of.number in
      subst (AreUnreachedKept m named out history) (sym more) (unreached_with m named out history carried c (omega (arith, at, number)) kept)
