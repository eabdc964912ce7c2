-- A wire of so many bytes that has the blocks which were said, with zeros where none was. That there is none cannot be.
use Rattle.std.proofs.Common.{◌≡◌, ℕ, zero, suc, ◌+◌, ◌-◌, ◌*◌, ◌/◌, ◌%◌, ◌<◌, ◌≤◌, List, [], ◌++◌, length, inl, inr, sym, subst, ap, ◌∙◌, arith, replicate}
use Rattle.std.proofs.Math.Nat.{zero-mul}
use Rattle.std.proofs.lemmas.Nat.{mod_below, div-add-mod'}
use Rattle.std.proofs.lemmas.List.{length-append, length-replicate}
use Rattle.std.proofs.lemmas.Bool.{cases_lt}
use Rattle.law_model.specs.Model.{block}
use Rattle.law_model.proofs.RulesLemmas.Joined.{block_added, block_kept, size_more}
use Rattle.law_end.proofs.Written.EachOf.{Bytes, all_both}
use Rattle.law_tap.specs.LossyRules.{IsBlockLength}

zeros : (n : ℕ) → Bytes (replicate n 0)
zeros zero = tt
zeros (suc n) = (omega arith, zeros n)

module _ (P : ℕ → List ℕ → Type 0) (b total : ℕ) (some : 0 < b) (once : (k : ℕ) (x y : List ℕ) → P k x → P k y → x ≡ y) (low : (k : ℕ) (x : List ℕ) → P k x → 1 ≤ k)
    (bytes : (k : ℕ) (x : List ℕ) → P k x → Bytes x) (lengths : (k : ℕ) (x : List ℕ) → P k x → IsBlockLength b total k (length x)) where
  -- with one block more, of at most this length
  appended : (n : ℕ) (w x : List ℕ) → length w ≡ n * b → ((k : ℕ) (y : List ℕ) → P k y → k ≤ n → y ≡ block b w k) → length x ≤ b → ((y : List ℕ) → P (suc n) y → y ≡ x)
      → (k : ℕ) (y : List ℕ) → P k y → k ≤ suc n → y ≡ block b (w ++ x) k
  appended n w x whole is fits next k y p up =
      let now : n ≡ suc n - 1 = omega arith in
      let size : length w ≡ (suc n - 1) * b = whole ∙ ap (λ i. i * b) now in
      elim (cases_lt k (suc n)) [
        | inl before ↦ is k y p (omega (arith, before)) ∙ sym (block_kept b k (suc n) w x (low k y p) before size)
        | inr over ↦
            let at : k ≡ suc n = omega (arith, over, up) in
            next y (subst (λ i. P i y) at p) ∙ sym (block_added b (suc n) w x size fits) ∙ ap (block b (w ++ x)) (sym at)
      ]

  -- what was said as block k, or zeros
  here : (k long : ℕ) → ((x : List ℕ) → P k x → length x ≡ long) → ((x : List ℕ) → length x ≡ long → Bytes x → ((y : List ℕ) → P k y → y ≡ x) → ⊥) → ⊥
  here k long is go = go (replicate long 0) (length-replicate long 0) (zeros long) (λ y p. absurd (go y (is y p) (bytes k y p) (λ z q. once k z y q p)))

  fill : (n : ℕ) → n ≤ total / b → ((w : List ℕ) → length w ≡ n * b → Bytes w → ((k : ℕ) (y : List ℕ) → P k y → k ≤ n → y ≡ block b w k) → ⊥) → ⊥
  fill zero up go = go [] (sym (zero-mul b)) tt (λ k y p top. let one = low k y p in absurd (omega (arith, top, one)))
  fill (suc n) up go = fill n (omega (arith, up)) (λ w whole all is. here (suc n) b (λ x p. full x (lengths (suc n) x p)) (λ x long more next. go (w ++ x) (longer w x whole long) (all_both (λ v. v < 256) w x all more) (appended n w x whole is (omega (arith, long)) next))) where
    full : (x : List ℕ) → IsBlockLength b total (suc n) (length x) → length x ≡ b
    full x (inl whole) = whole.1
    full x (inr last) = let at = last.0 in absurd (omega (arith, at, up))

    longer : (w x : List ℕ) → length w ≡ n * b → length x ≡ b → length (w ++ x) ≡ suc n * b
    longer w x whole long =
        let now : n ≡ suc n - 1 = omega arith in
        let next : suc n + 1 - 1 ≡ suc n = omega arith in
        size_more b (suc n) w x (omega arith) (whole ∙ ap (λ i. i * b) now) long ∙ ap (λ i. i * b) next

  pub some_wire : ((w : List ℕ) → length w ≡ total → Bytes w → ((k : ℕ) (y : List ℕ) → P k y → y ≡ block b w k) → ⊥) → ⊥
  some_wire go = fill (total / b) (omega arith) (λ w whole all is. here (suc (total / b)) (total % b) (λ x p. rest x (lengths (suc (total / b)) x p)) (λ x long more next.
      go (w ++ x) (length-append w x ∙ ap (λ l. l + length x) whole ∙ ap (λ l. total / b * b + l) long ∙ div-add-mod' total b) (all_both (λ v. v < 256) w x all more)
      (λ k y p. appended (total / b) w x whole is (short x long) next k y p (within k y (lengths k y p))))) where
        rest : (x : List ℕ) → IsBlockLength b total (suc (total / b)) (length x) → length x ≡ total % b
        rest x (inl whole) = let up = whole.0 in absurd (omega (arith, up))
        rest x (inr last) = last.1

        short : (x : List ℕ) → length x ≡ total % b → length x ≤ b
        short x long = let less = mod_below total b some in omega (arith, long, less)

        within : (k : ℕ) (y : List ℕ) → IsBlockLength b total k (length y) → k ≤ suc (total / b)
        within k y (inl whole) = let up = whole.0 in omega (arith, up)
        within k y (inr last) = let at = last.0 in omega (arith, at)
