-- There is a highest block of whatever has passed, and so a block for each number.
use Rattle.std.proofs.Common.{◌≡◌, ◌⊎◌, ℕ, ◌+◌, ◌*◌, ◌<◌, ◌≤◌, List, [], ◌∷◌, inl, inr, refl, ap, arith}
use Rattle.std.proofs.lemmas.Bool.{cases_eq, cases_lt}
use Rattle.std.specs.List.{AllByRecursion}
use Rattle.tftp_packet.specs.{Message, Data, Spells, Dir, In, Out, Rollover}
use Rattle.tftp_packet.specs.Hosts.{Datagram}
use Rattle.law_model.specs.Rules.{HasPassed, IsHigh}
use Rattle.law_end.proofs.Soundness.Settled.{either}
use Rattle.law_end.proofs.Spelled.{spelled_once}
use Rattle.law_rollover.specs.{IsUnrolled, unrolled_payload, with_payload}

-- ---- a payload is a DATA, or it is not

bytes_cases : (xs : List ℕ) → AllByRecursion (λ b. b < 256) xs ⊎ (AllByRecursion (λ b. b < 256) xs → ⊥)
bytes_cases [] = inl tt
bytes_cases (x ∷ xs) = elim (cases_lt x 256) [
  | inl low ↦ elim (bytes_cases xs) [ inl all ↦ inl (low, all) | inr other ↦ inr (λ all. other all.1) ]
  | inr high ↦ inr (λ all. let low = all.0 in omega arith)
]

abbrev SaysBlock : List ℕ → Type 0
SaysBlock payload = (k : ℕ) × (bytes : List ℕ) × Spells payload (Data k bytes)

data_layout : (a b x y : ℕ) (rest : List ℕ) → a ≡ 0 → b ≡ 3 → AllByRecursion (λ n. n < 256) (a ∷ b ∷ y ∷ rest) → SaysBlock (a ∷ b ∷ x ∷ y ∷ rest)
data_layout a b x y rest first second all = (256 * x + y, rest, (all, (x, y, (all.1.1.0, refl), λ i. first i ∷ second i ∷ x ∷ y ∷ rest)))

block_cases : (payload : List ℕ) → SaysBlock payload ⊎ (SaysBlock payload → ⊥)
block_cases (a ∷ b ∷ x ∷ y ∷ rest) = elim (cases_eq a 0) [
  | inl first ↦ elim (cases_eq b 3) [
    | inl second ↦ elim (bytes_cases (a ∷ b ∷ y ∷ rest)) [
      | inl all ↦ inl (data_layout a b x y rest first second all)
      | inr other ↦ inr (λ says. other says.2.0)
    ]
    | inr other ↦ inr (λ says. let are = says.2.1.3 in other cc)
  ]
  | inr other ↦ inr (λ says. let are = says.2.1.3 in other cc)
]
block_cases [] = inr (λ says. let are = says.2.1.3 in absurd (cc))
block_cases (a ∷ []) = inr (λ says. let are = says.2.1.3 in absurd (cc))
block_cases (a ∷ b ∷ []) = inr (λ says. let are = says.2.1.3 in absurd (cc))
block_cases (a ∷ b ∷ x ∷ []) = inr (λ says. let are = says.2.1.3 in absurd (cc))

-- ---- the highest block

passes_now : (m : Message) (d : Datagram) (ds : List Datagram) → Spells d.payload m → HasPassed m (d ∷ ds)
passes_now m d ds s = by d.dir refl where
  by : (dir : Dir) → d.dir ≡ dir → HasPassed m (d ∷ ds)
  by In is = inl (inl (is, s))
  by Out is = inr (inl (is, s))

passed_too : (m : Message) (d : Datagram) (ds : List Datagram) → HasPassed m ds → HasPassed m (d ∷ ds)
passed_too m d ds (inl p) = inl (inr p)
passed_too m d ds (inr p) = inr (inr p)

abbrev block_in : Message → ℕ
block_in (Data k bytes) = k
block_in _ = 0

module _ (d : Datagram) (ds : List Datagram) (n : ℕ) (is : IsHigh ds n) where
  stays_high : ((k : ℕ) (bytes : List ℕ) → Spells d.payload (Data k bytes) → k ≤ n) → IsHigh (d ∷ ds) n
  stays_high low = record {
    member = elim is.member [ inl none ↦ inl none | inr some ↦ inr (some.0, passed_too (Data n some.0) d ds some.1) ];
    most = λ k some. elim (either (Data k some.0) d ds some.1) [
      | inl now ↦ low k some.0 now
      | inr before ↦ is.most k (some.0, before)
    ];
  }

  same_block : (k : ℕ) (bytes : List ℕ) → Spells d.payload (Data k bytes) → (j : ℕ) (other : List ℕ) → Spells d.payload (Data j other) → j ≡ k
  same_block k bytes s j other t = ap block_in (spelled_once d.payload (Data j other) (Data k bytes) t s)

  now_high : (k : ℕ) (bytes : List ℕ) → Spells d.payload (Data k bytes) → n < k → IsHigh (d ∷ ds) k
  now_high k bytes s above = record {
    member = inr (bytes, passes_now (Data k bytes) d ds s);
    most = λ j some. elim (either (Data j some.0) d ds some.1) [
      | inl now ↦ let same = same_block k bytes s j some.0 now in omega (arith, same)
      | inr before ↦ let low = is.most j (some.0, before) in omega (arith, above)
    ];
  }

  high_with : SaysBlock d.payload ⊎ (SaysBlock d.payload → ⊥) → (high : ℕ) × IsHigh (d ∷ ds) high
  high_with (inl says) = elim (cases_lt n says.0) [
    | inl above ↦ (says.0, now_high says.0 says.1 says.2 above)
    | inr below ↦ (n, stays_high (λ k bytes s. let same = same_block says.0 says.1 says.2 k bytes s in omega (arith, same, below)))
  ]
  high_with (inr none) = (n, stays_high (λ k bytes s. absurd (none (k, bytes, s))))

any_high : (ds : List Datagram) → (high : ℕ) × IsHigh ds high
any_high [] = (0, record { member = inl refl; most = λ k some. absurd (elim some.1 [ inl came ↦ came | inr went ↦ went ]) })
any_high (d ∷ ds) = let (n, is) = any_high ds in high_with d ds n is (block_cases d.payload)

pub unrolled_there : (r : Rollover) (passed : List Datagram) (d : Datagram) → (now : Datagram) × IsUnrolled r passed d now
unrolled_there r passed d = let (high, top) = any_high passed in (with_payload d (unrolled_payload r high d.payload), (high, top, refl))
