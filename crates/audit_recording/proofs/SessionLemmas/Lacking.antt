-- What may be missing of a transfer, by the first frame that is told.
use Rattle.std.proofs.Common.{◌≡◌, ◌≤◌, ◌<◌, ℕ, Bool, true, false, nat_le, Option, Some, None, MatchOption, sym, ◌∙◌, arith}
use Rattle.std.proofs.lemmas.Bool.{false≢true}
use Rattle.std.proofs.lemmas.Bool.{leb-false}
use Rattle.audit_recording.specs.Losses.Noted.{IsFirst}

module _ (Such : ℕ → ℕ → Type 0) (last : ℕ) (up_to : Bool) where
  -- it stands up to the last one
  pub some_up_to : (first : Option ℕ) → IsFirst Such first → MatchOption first (up_to ≡ false) (λ n. up_to ≡ nat_le n last) → up_to ≡ true → (n time : ℕ) × Such n time × (nat_le n last ≡ true)
  some_up_to None is told so = absurd (false≢true (sym told ∙ so))
  some_up_to (Some n) is told so = (n, is.0.0, is.0.1, sym told ∙ so)

  -- none does
  pub none_up_to : (first : Option ℕ) → IsFirst Such first → MatchOption first (up_to ≡ false) (λ n. up_to ≡ nat_le n last) → up_to ≡ false → (n time : ℕ) → Such n time → last < n
  none_up_to None is told off n time such = absurd (is n time such)
  none_up_to (Some first) is told off n time such =
      let above : last < first = leb-false first last (sym told ∙ off) in
      let low : first ≤ n = is.1 n time such in
      omega arith
