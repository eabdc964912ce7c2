-- How often a packet was sent at one end and taken at the other (RFC 1350, section 2).
use Rattle.std.specs.Prelude.{◌≡◌, ◌≢◌, ◌⊎◌, ℕ, ◌+◌, [], ◌∷◌}
use Rattle.law_model.specs.Model.{Deed, Sent, Took, MachinePacket, History}

-- the history has the deed so often
abbrev pub Times : History → Deed → ℕ → Type 0
Times [] d n = n ≡ 0
Times (e ∷ h) d n = ((e ≡ d) × (m : ℕ) × (n ≡ m + 1) × Times h d m) ⊎ ((e ≢ d) × Times h d n)

-- The packet was sent so often by the first end and taken so often by the second. At least `sent - taken` of its copies
-- were lost, and at least `taken - sent` were made by the network.
pub record PassedSoOften (from to : History) (p : MachinePacket) (sent taken : ℕ) : Type 0 where
  pub went : Times from (Sent p) sent
  pub came : Times to (Took p) taken
