-- The blocks of a wire break none of the rules of lengths.
use Rattle.std.proofs.Common.{◌≡◌, ℕ, ◌+◌, ◌-◌, ◌*◌, ◌/◌, ◌%◌, ◌<◌, ◌≤◌, min, List, length, Some, inl, inr, refl, sym, subst, ap, ◌∙◌, arith}
use Rattle.std.proofs.lemmas.Bool.{cases_lt}
use Rattle.std.proofs.lemmas.Nat.{mod_below, div-add-mod'}
use Rattle.tftp_packet.specs.{Message}
use Rattle.tftp_packet.specs.Hosts.{Datagram}
use Rattle.law_model.specs.Model.{block, block_count}
use Rattle.law_model.specs.Rules.{HasPassed, IsLast, BlockBreaks, HasWrongLength, IsNotLengthOf}
use Rattle.law_model.specs.{EndRule, Terms}
use Rattle.law_model.proofs.RulesLemmas.Joined.{length_block, whole_block, last_block}

module _ (wire : List ℕ) (t : Terms) (some : 0 < t.blksize) (numbered : block_count t.blksize wire ≤ t.greatest) (size : (size : ℕ) → t.size ≡ Some size → length wire ≡ size)
    (passed : List Datagram) (blocks : (k : ℕ) (bytes : List ℕ) → HasPassed (Message.Data k bytes) passed → (1 ≤ k) × (k ≤ block_count t.blksize wire) × (bytes ≡ block t.blksize wire k)) where
  abbrev count : ℕ
  count = block_count t.blksize wire

  at_most : (k : ℕ) → 1 ≤ k → k ≤ count → length (block t.blksize wire k) ≤ t.blksize
  at_most k low up = let is = length_block t.blksize k wire in omega arith

  short_is_last : (k : ℕ) → 1 ≤ k → k ≤ count → length (block t.blksize wire k) < t.blksize → k ≡ count
  short_is_last k low up short = elim (cases_lt k count) [
    | inl below ↦ let whole = whole_block t.blksize count k wire refl low below in absurd (omega (arith, short))
    | inr at ↦ omega (arith, at, up)
  ]

  left_over : length (block t.blksize wire count) ≡ length wire % t.blksize
  left_over =
      let is : length (block t.blksize wire count) ≡ min t.blksize (length wire - length wire / t.blksize * t.blksize) = length_block t.blksize count wire ∙ ap (λ i. min t.blksize (length wire - i * t.blksize)) back in
      let split = div-add-mod' (length wire) t.blksize in
      let low = mod_below (length wire) t.blksize some in
      omega (arith, is, split, low)
    where
      back : length wire / t.blksize + 1 - 1 ≡ length wire / t.blksize
      back = omega arith

  pub the_last : (last : ℕ) → IsLast t passed last → last ≡ count
  the_last last (inl (bytes, p, short)) =
      let (low, up, is) = blocks last bytes p in
      short_is_last last low up (subst (λ x. length x < t.blksize) is short)
  the_last last (inr (n, is, at)) = at ∙ ap (λ i. i / t.blksize + 1) (sym (size n is))

  not_wrong : (k : ℕ) → 1 ≤ k → k ≤ count → IsNotLengthOf t count k (length (block t.blksize wire k)) → ⊥
  not_wrong k low up (inl past) = omega (arith, past, up)
  not_wrong k low up (inr (inl early)) = early.1 (whole_block t.blksize count k wire refl low early.0)
  not_wrong k low up (inr (inr (inl full))) =
      let short = last_block t.blksize count wire some refl in
      let is = subst (λ i. length (block t.blksize wire i) ≡ t.blksize) full.0 full.1 in
      omega (arith, short, is)
  not_wrong k low up (inr (inr (inr (at, n, is, differs)))) =
      differs (ap (λ i. length (block t.blksize wire i)) at ∙ left_over ∙ ap (λ i. i % t.blksize) (size n is))

  right_length : (k : ℕ) → 1 ≤ k → k ≤ count → HasWrongLength t passed k (length (block t.blksize wire k)) → ⊥
  right_length k low up (inl long) = let fits = at_most k low up in omega (arith, long)
  right_length k low up (inr (inl (last, is, wrong))) = not_wrong k low up (subst (λ i. IsNotLengthOf t i k (length (block t.blksize wire k))) (the_last last is) wrong)
  right_length k low up (inr (inr (unknown, short, (high, most, above)))) =
      let at = short_is_last k low up short in
      elim most.member [
        | inl none ↦ omega (arith, none, low, above)
        | inr p ↦
            let (one, within, is) = blocks high p.0 p.1 in
            let same : high ≡ count = omega (arith, at, above, within) in
            let whole = unknown.all_whole high p.0 p.1 in
            let less = last_block t.blksize count wire some refl in
            let long = ap length (is ∙ ap (block t.blksize wire) same) in
            omega (arith, whole, less, long)
      ]

  pub not_beyond : (k : ℕ) → 1 ≤ k → k ≤ count → BlockBreaks t passed k (block t.blksize wire k) EndRule.BeyondBlock65535 → ⊥
  not_beyond k low up (inl above) = let few = numbered in omega (arith, above, up, few)
  not_beyond k low up (inr (is, whole)) =
      let few = numbered in
      let at : k ≡ count = omega (arith, is, up, few) in
      let short = subst (λ i. length (block t.blksize wire i) < t.blksize) (sym at) (last_block t.blksize count wire some refl) in
      omega (arith, whole, short)

  pub not_misfit : (k : ℕ) → 1 ≤ k → k ≤ count → BlockBreaks t passed k (block t.blksize wire k) EndRule.BlockLength → ⊥
  not_misfit k low up wrong = right_length k low up wrong

  pub not_changed : (k : ℕ) → BlockBreaks t passed k (block t.blksize wire k) EndRule.BlockChanged → ⊥
  not_changed k (other, p, differs) = differs (blocks k other p).2
