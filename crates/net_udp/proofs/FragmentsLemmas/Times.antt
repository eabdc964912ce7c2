-- How long what waits together may lie apart.
use Rattle.std.proofs.Common.{◌≡◌, ℕ, ◌+◌, ◌-◌, ◌≤◌, ◌||◌, Bool, false, inl, inr, Some, nat_lt, ap, ◌∙◌, arith}
use Rattle.std.proofs.lemmas.Bool.{cases_lt, lt-ltb}
use Rattle.std.proofs.Math.Bool.{or-true}
use Rattle.net_udp.specs.Fragments.{is_long}
use Rattle.net_udp.proofs.FragmentsLemmas.Holding.{not_both}

pub within : (began time : ℕ) → is_long (Some began) (Some time) ≡ false → (time ≤ began + 60000000000) × (began ≤ time + 60000000000)
within began time e = (
  elim (cases_lt (began + 60000000000) time) [
    | inl late ↦ absurd (not_both (is_long (Some began) (Some time)) (ap (λ (b : Bool). b || nat_lt 30000000000 (began - time)) (lt-ltb 30000000000 (time - began) (omega (arith, late)))) e)
    | inr there ↦ there
  ],
  elim (cases_lt (time + 60000000000) began) [
    | inl early ↦ absurd (not_both (is_long (Some began) (Some time)) (ap (λ (b : Bool). nat_lt 30000000000 (time - began) || b) (lt-ltb 30000000000 (began - time) (omega (arith, early))) ∙ or-true (nat_lt 30000000000 (time - began))) e)
    | inr there ↦ there
  ],
)
