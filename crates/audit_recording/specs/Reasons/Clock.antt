-- The times of a recording's datagrams, in nanoseconds since 1970. Lists have the newest first.
use Rattle.std.specs.Prelude.{◌≡◌, ◌≤◌, ◌⊎◌, ◌↔◌, ℕ, List, [], ◌∷◌}
use Rattle.audit_recording.specs.declared.session.clock.Clock.{Clock}

-- two in a row are this late, or later
abbrev pub HaveReached : List ℕ → ℕ → Type 0
HaveReached [] moment = ⊥
HaveReached (time ∷ []) moment = ⊥
HaveReached (time ∷ before ∷ older) moment = ((moment ≤ time) × (moment ≤ before)) ⊎ HaveReached (before ∷ older) moment

-- the time of the newest one; 0 before the first
abbrev pub last_of : List ℕ → ℕ
last_of [] = 0
last_of (time ∷ older) = time

-- It stands for these times: what it has reached is the latest moment that two in a row have reached, or 0.
pub record IsClockAfter (c : Clock) (times : List ℕ) : Type 0 where
  pub last : c.last ≡ last_of times
  pub reached : (moment : ℕ) → 1 ≤ moment → (moment ≤ c.reached) ↔ HaveReached times moment
