-- How many datagrams the normal capture has, as the code counts them.
use Rattle.std.proofs.Common.{◌≡◌, ℕ, suc, ◌+◌, ◌*◌, ◌/◌, ◌%◌, ◌<◌, ◌≤◌, min, inl, inr, ap₂, ◌∙◌, arith, suc-mul, mul-le-mul_right}
use Rattle.std.proofs.lemmas.Bool.{cases_lt}
use Rattle.std.proofs.lemmas.Grind.{div_ceil_times}
use Rattle.std.specs.FinMap as map
use Rattle.law_model.specs.Model.{Meaning, windowsize_of}
use Rattle.law_end.specs.{blocks_of}
use Rattle.tftp_normal.specs.{window_count, opening_count, normal_count}
use Rattle.tftp_normal.proofs.Shortest.{windows_hold}

not_fewer : (w n c d : ℕ) → n ≤ c * w → d * w < n + w → c < d → ⊥
not_fewer w n c d enough few low =
    let size : suc c * w ≡ c * w + w = suc-mul c w in
    let within : suc c * w ≤ d * w = mul-le-mul_right w low in
    absurd (omega (arith, size, within, enough, few))

one_count : (w n c d : ℕ) → n ≤ c * w → c * w < n + w → n ≤ d * w → d * w < n + w → c ≡ d
one_count w n c d enough few also_enough also_few = elim (cases_lt c d) [
  | inl low ↦ absurd (not_fewer w n c d enough also_few low)
  | inr high ↦ elim (cases_lt d c) [
    | inl low ↦ absurd (not_fewer w n d c also_enough few low)
    | inr same ↦ omega (arith, high, same)
  ]
]

pub rounded_up : (w n : ℕ) → 1 ≤ w → n / w + min 1 (n % w) ≡ window_count w n
rounded_up w n some =
    let by_code = div_ceil_times n w some in
    let held = windows_hold n w some in
    one_count w n (n / w + min 1 (n % w)) (window_count w n) by_code.0 by_code.1 held.0 held.1

-- the count by its parts, as the code has them
pub counted_by_parts : (m : Meaning) (first blocks window windows : ℕ) → first ≡ opening_count m.side (map.len m.agreed) → blocks ≡ blocks_of m → window ≡ windowsize_of m → 1 ≤ window
    → windows ≡ blocks / window + min 1 (blocks % window) → first + blocks + windows ≡ normal_count m
counted_by_parts m first blocks window windows is_first are_blocks is_window some rounded =
    ap₂ ◌+◌ (ap₂ ◌+◌ is_first are_blocks) (rounded ∙ rounded_up window blocks some ∙ ap₂ window_count is_window are_blocks)
