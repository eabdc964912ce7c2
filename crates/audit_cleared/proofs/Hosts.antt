-- The hosts of the worked recordings are at addresses.
use Rattle.std.proofs.Common.{zero, suc, ◌<◌, ◌^◌, ℕ, [], ◌∷◌, slice_index, refl, arith}
use Rattle.audit_flows.specs.{V4}
use Rattle.audit_views.specs.Parties.{IsAddress}

few_bytes : (a b c d : ℕ) → a < 2 ^ 8 → b < 2 ^ 8 → c < 2 ^ 8 → d < 2 ^ 8 → (k : ℕ) → slice_index (a ∷ b ∷ c ∷ d ∷ []) k < 2 ^ 8
few_bytes a b c d first second third fourth zero = first
few_bytes a b c d first second third fourth (suc zero) = second
few_bytes a b c d first second third fourth (suc (suc zero)) = third
few_bytes a b c d first second third fourth (suc (suc (suc zero))) = fourth
few_bytes a b c d first second third fourth (suc (suc (suc (suc k)))) = omega arith

pub address_at : (d : ℕ) → d < 2 ^ 8 → IsAddress (V4 (192 ∷ 0 ∷ 2 ∷ d ∷ []))
address_at d low = (refl, few_bytes 192 0 2 d (omega arith) (omega arith) (omega arith) low)
