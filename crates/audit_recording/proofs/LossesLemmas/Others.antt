-- What other hosts lose is nothing of this one's.
use Rattle.std.proofs.Common.{◌≡◌, ◌==◌, ◌||◌, ◌∷◌, ℕ, true, false, cond, List, Some, is_some, inl, inr, sym, ap, subst, ◌∙◌}
use Rattle.std.proofs.lemmas.Bool.{false≢true}
use Rattle.audit_flows.specs.{Address}
use Rattle.audit_recording.specs.Losses.Noted.{Event, IsMissingOf, Unread, is_of_host, is_of_none, waiting_at}
use Rattle.audit_recording.specs.Losses.Noted.Event.{Loses, Waits}
use Rattle.audit_recording.proofs.LossesLemmas.Keeping.{by_test, some_is}

other_is : (host : Address) (f g : Unread) → (is_of_host host f || is_of_none f) ≡ false → (is_of_host host g || is_of_none g) ≡ true → f ≡ g → ⊥
other_is host f g off own same = false≢true (sym off ∙ subst (λ (x : Unread). (is_of_host host x || is_of_none x) ≡ true) (sym same) own)

pub lost_elsewhere : (host : Address) (f : Unread) (history : List Event) (n time : ℕ) → (is_of_host host f || is_of_none f) ≡ false
    → IsMissingOf host (Loses f ∷ history) n time → IsMissingOf host history n time
lost_elsewhere host f history n time off is = elim is.1 [
  | inl lost ↦ elim lost [
    | inl here ↦ absurd (other_is host f is.0 off is.2 (some_is here))
    | inr was ↦ (is.0, inl was, is.2, is.3, is.4)
  ]
  | inr waits ↦ (is.0, inr waits, is.2, is.3, is.4)
]

pub waits_elsewhere : (host : Address) (f : Unread) (history : List Event) (n time : ℕ) → (is_of_host host f || is_of_none f) ≡ false
    → IsMissingOf host (Waits f ∷ history) n time → IsMissingOf host history n time
waits_elsewhere host f history n time off is = elim is.1 [
  | inl lost ↦ elim lost [
    | inl none ↦ absurd (false≢true (ap is_some none))
    | inr was ↦ (is.0, inl was, is.2, is.3, is.4)
  ]
  | inr waits ↦ by_test (f.frame == is.0.frame)
      (λ same. absurd (other_is host f is.0 off is.2 (some_is (sym (ap (λ b. cond b (Some f) (waiting_at is.0.frame history)) same) ∙ waits))))
      (λ other. (is.0, inr (sym (ap (λ b. cond b (Some f) (waiting_at is.0.frame history)) other) ∙ waits), is.2, is.3, is.4))
]
