-- What is taken from the front of a list, one element after another.
use Rattle.std.proofs.Common.{◌≡◌, ℕ, zero, suc, ◌+◌, ◌≤◌, List, [], ◌∷◌, ◌++◌, take, drop, refl, ap, ◌∙◌, arith}

take_first : (l : List ℕ) (i x : ℕ) (rest : List ℕ) → drop i l ≡ x ∷ rest → take (suc i) l ≡ take i l ++ x ∷ []
take_first [] zero x rest e = absurd (cc)
take_first [] (suc i) x rest e = absurd (cc)
take_first (y ∷ l) zero x rest e = let is : y ≡ x = cc in ap (λ z. z ∷ []) is
take_first (y ∷ l) (suc i) x rest e = ap (λ k. y ∷ k) (take_first l i x rest e)

drop_first : (l : List ℕ) (i x : ℕ) (rest : List ℕ) → drop i l ≡ x ∷ rest → drop (suc i) l ≡ rest
drop_first [] zero x rest e = absurd (cc)
drop_first [] (suc i) x rest e = absurd (cc)
drop_first (y ∷ l) zero x rest e = let is : l ≡ rest = cc in is
drop_first (y ∷ l) (suc i) x rest e = drop_first l i x rest e

pub take_next : (l : List ℕ) (i x : ℕ) (rest : List ℕ) → drop i l ≡ x ∷ rest → take (i + 1) l ≡ take i l ++ x ∷ []
take_next l i x rest e = let more : i + 1 ≡ suc i = omega arith in ap (λ n. take n l) more ∙ take_first l i x rest e

pub drop_next : (l : List ℕ) (i x : ℕ) (rest : List ℕ) → drop i l ≡ x ∷ rest → drop (i + 1) l ≡ rest
drop_next l i x rest e = let more : i + 1 ≡ suc i = omega arith in ap (λ n. drop n l) more ∙ drop_first l i x rest e

-- nothing is left after the first i, so nothing more is taken
pub take_past : (l : List ℕ) (i n : ℕ) → drop i l ≡ [] → i ≤ n → take n l ≡ take i l
take_past [] zero zero e low = refl
take_past [] zero (suc n) e low = refl
take_past [] (suc i) zero e low = refl
take_past [] (suc i) (suc n) e low = refl
take_past (y ∷ l) zero n e low = absurd (cc)
take_past (y ∷ l) (suc i) zero e low = absurd (omega (arith, low))
take_past (y ∷ l) (suc i) (suc n) e low = ap (λ k. y ∷ k) (take_past l i n e (omega (arith, low)))

pub drop_past : (l : List ℕ) (i n : ℕ) → drop i l ≡ [] → i ≤ n → drop n l ≡ []
drop_past [] zero zero e low = refl
drop_past [] zero (suc n) e low = refl
drop_past [] (suc i) zero e low = refl
drop_past [] (suc i) (suc n) e low = refl
drop_past (y ∷ l) zero n e low = absurd (cc)
drop_past (y ∷ l) (suc i) zero e low = absurd (omega (arith, low))
drop_past (y ∷ l) (suc i) (suc n) e low = drop_past l i n e (omega (arith, low))
