-- Flags in words of 64 bits.
use Rattle.std.proofs.Common.{◌≡◌, ◌||◌, ◌==◌, ◌/◌, ◌%◌, ◌+◌, ◌*◌, ◌^◌, ◌<◌, ◌≤◌, ℕ, zero, suc, Bool, true, false, List, length, w64, bit_or, inl, inr, refl, sym, subst, ap, ◌∙◌, replicate, slice_index_or, slice_set}
use Rattle.std.specs.Int.{bit_at}
use Rattle.std.proofs.lemmas.Bool.{cases_eq, eq-eqb, ne_eqb}
use Rattle.std.proofs.lemmas.List.{get_or_past, get_or-set_same, get_or-set_other}
use Rattle.std.proofs.lemmas.Nat.{div-add-mod'}
use Rattle.std.proofs.lemmas.Nat.Bits.{bit_at-zero, bit_at_set_same, bit_at_set_other}
use Rattle.tftp_judge.specs.{flags_of}

or_true : (a : Bool) → (a || true) ≡ true
or_true true = refl
or_true false = refl

or_false : (a : Bool) → (a || false) ≡ a
or_false true = refl
or_false false = refl

same_number : (j k : ℕ) → j / 64 ≡ k / 64 → j % 64 ≡ k % 64 → j ≡ k
same_number j k word bit = sym (div-add-mod' j 64) ∙ ap (λ w. w * 64 + j % 64) word ∙ ap (λ b. k / 64 * 64 + b) bit ∙ div-add-mod' k 64

zero_at : (n i : ℕ) → let none : ℕ = 0 in slice_index_or (replicate n none) i none ≡ none
zero_at zero i = refl
zero_at (suc n) zero = refl
zero_at (suc n) (suc i) = zero_at n i

pub no_flag : (n j : ℕ) → flags_of (replicate n 0) j ≡ false
no_flag n j = ap (λ w. bit_at w (j % 64) == 1) (zero_at n (j / 64)) ∙ ap (λ b. b == 1) (bit_at-zero (j % 64))

-- a flag that no word has
pub flag_beyond : (words : List ℕ) (j : ℕ) → length words ≤ j / 64 → false ≡ flags_of words j
flag_beyond words j past = sym (ap (λ w. bit_at w (j % 64) == 1) (get_or_past words (j / 64) 0 past) ∙ ap (λ b. b == 1) (bit_at-zero (j % 64)))

-- the word with one flag more
abbrev raised : List ℕ → ℕ → ℕ
raised words k = bit_or (slice_index_or words (k / 64) 0) (1 * 2 ^ (k % 64) % 2 ^ 64)

pub flag_raised : (words : List ℕ) (k j : ℕ) → k / 64 < length words → k % 64 < 64 → flags_of (slice_set words (k / 64) (raised words k)) j ≡ (flags_of words j || (j == k))
flag_raised words k j within bit = elim (cases_eq (j / 64) (k / 64)) [
  | inr other ↦
      let apart = ne_eqb j k (λ same. other (ap (λ n. n / 64) same)) in
      ap (λ w. bit_at w (j % 64) == 1) (get_or-set_other words (k / 64) (j / 64) (raised words k) 0 other)
      ∙ sym (ap (λ b. flags_of words j || b) apart ∙ or_false (flags_of words j))
  | inl word ↦
      let now : slice_index_or (slice_set words (k / 64) (raised words k)) (j / 64) 0 ≡ raised words k =
      ap (λ w. slice_index_or (slice_set words (k / 64) (raised words k)) w 0) word ∙ get_or-set_same words (k / 64) (raised words k) 0 within in
      elim (cases_eq (j % 64) (k % 64)) [
        | inl same ↦
            ap (λ w. bit_at w (j % 64) == 1) now ∙ ap (λ b. bit_at (raised words k) b == 1) same
            ∙ ap (λ n. n == 1) (bit_at_set_same w64 (slice_index_or words (k / 64) 0) (k % 64) bit)
            ∙ sym (ap (λ b. flags_of words j || b) (eq-eqb j k (same_number j k word same)) ∙ or_true (flags_of words j))
        | inr apart ↦
            ap (λ w. bit_at w (j % 64) == 1) now
            ∙ ap (λ n. n == 1) (bit_at_set_other w64 (slice_index_or words (k / 64) 0) (k % 64) bit (j % 64) apart)
            ∙ ap (λ w. bit_at (slice_index_or words w 0) (j % 64) == 1) (sym word)
            ∙ sym (ap (λ b. flags_of words j || b) (ne_eqb j k (λ same. apart (ap (λ n. n % 64) same))) ∙ or_false (flags_of words j))
      ]
]

pub flag_noted : (words old : List ℕ) (k i j : ℕ) → words ≡ old → i ≡ k / 64 → i < length words → k % 64 < 64
    → flags_of (slice_set words i (bit_or (slice_index_or words i 0) (1 * 2 ^ (k % 64) % 18446744073709551616))) j ≡ (flags_of old j || (j == k))
flag_noted words old k i j was at within bit =
    ap (λ w. flags_of (slice_set words w (bit_or (slice_index_or words w 0) (1 * 2 ^ (k % 64) % 18446744073709551616))) j) at
    ∙ flag_raised words k j (subst (λ w. w < length words) at within) bit
    ∙ ap (λ (ws : List ℕ). flags_of ws j || (j == k)) was
