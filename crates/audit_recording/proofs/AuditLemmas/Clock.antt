-- The clock of what has passed.
use Rattle.std.proofs.Common.{◌≡◌, ℕ, max, List, [], ◌∷◌, refl, arith}
use Rattle.audit_recording.specs.Audit.{last_time}
use Rattle.audit_flows.specs.Lines.{clock, Recorded}
use Rattle.audit_flows.specs.Transfers.{placed}

later_of : (a b : ℕ) → max a (max a b) ≡ max a b
later_of a b = omega arith

-- it is not before the time of the last datagram
pub clock_stays : (named : List ℕ) (passed : List Recorded) → max (last_time passed) (clock (placed named passed)) ≡ clock (placed named passed)
clock_stays named [] = refl
clock_stays named (d ∷ older) = later_of d.time (clock (placed named older))
