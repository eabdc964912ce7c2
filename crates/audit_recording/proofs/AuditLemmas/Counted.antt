-- How many datagrams have passed.
use Rattle.std.proofs.Common.{arith, ◌≤◌, ◌^◌, ℕ, List, [], ◌∷◌, length, subst, sym}
use Rattle.net_udp.specs.Recording.{Step}
use Rattle.net_udp.specs.{Fate}
use Rattle.net_udp.specs.declared.recording.fate.Fate.TheVariants.{Datagram, Discarded, Left, Waits}
use Rattle.audit_flows.specs.Lines.{Recorded}
use Rattle.audit_recording.specs.Audit.Passed.{Adds, HasPassed}

longer : (d : Recorded) (older : List Recorded) (step : Step) (before : List Step) → length older ≤ length before → length (d ∷ older) ≤ length (step ∷ before)
longer d older step before le = grind arith

as_long : (older : List Recorded) (step : Step) (before : List Step) → length older ≤ length before → length older ≤ length (step ∷ before)
as_long older step before le = grind arith

-- no more than frames
pub passed_by_frames : (history : List Step) (passed : List Recorded) → HasPassed history passed → length passed ≤ length history
passed_by_frames [] passed none = subst (λ (l : List Recorded). length l ≤ 0) (sym none) (omega arith)
passed_by_frames (step ∷ before) passed had = adds_one had.1 had.0 passed (passed_by_frames before had.0 had.2) had.4 where
  adds_one : (fate : Fate) (older all : List Recorded) → length older ≤ length before → Adds step.frame.time fate older all → length all ≤ length (step ∷ before)
  adds_one (Datagram given) older all le adds = subst (λ (l : List Recorded). length l ≤ length (step ∷ before)) (sym adds.2) (longer adds.0 older step before le)
  adds_one (Left why) older all le adds = subst (λ (l : List Recorded). length l ≤ length (step ∷ before)) (sym adds) (as_long older step before le)
  adds_one Waits older all le adds = subst (λ (l : List Recorded). length l ≤ length (step ∷ before)) (sym adds) (as_long older step before le)
  adds_one (Discarded given) older all le adds = subst (λ (l : List Recorded). length l ≤ length (step ∷ before)) (sym adds) (as_long older step before le)

pub at_least : (m n k : ℕ) → m ≤ n → n ≤ k → m ≤ k
at_least m n k le up = grind arith

pub many_frames : (history : List Step) (passed : List Recorded) → HasPassed history passed → 2 ^ 40 ≤ length passed → 2 ^ 40 ≤ length history
many_frames history passed had many = at_least (2 ^ 40) (length passed) (length history) many (passed_by_frames history passed had)
