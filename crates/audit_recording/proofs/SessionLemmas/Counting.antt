-- How often a frame stands in a list.
use Rattle.std.proofs.Common.{◌≡◌, ◌≢◌, ◌≤◌, ◌+◌, ◌++◌, ◌==◌, ◌∷◌, ◌⊎◌, inl, inr, ℕ, not, true, false, Bool, cond, List, [], refl, sym, ap, ◌∙◌, arith, true≢false, eq-eqb, eqb-true, ne_eqb}
use Rattle.std.proofs.lemmas.Bool.{cases_Bool}
use Rattle.std.specs.List.{AllByRecursion}
use Rattle.audit_recording.specs.Session.Noted.{others}
use Rattle.audit_recording.specs.Session.Told.{AreApart, AreEachOnce, IsNotAmong}

-- 1 where the two are one
pub one_if : ℕ → ℕ → ℕ
one_if k n = cond (n == k) 1 0

abbrev pub count_in : ℕ → List ℕ → ℕ
count_in k [] = 0
count_in k (n ∷ ns) = one_if k n + count_in k ns

pub one_same : (k n : ℕ) → n ≡ k → one_if k n ≡ 1
unfolding one_if
one_same k n e = ap (λ b. cond b 1 0) (eq-eqb n k e)

pub one_other : (k n : ℕ) → n ≢ k → one_if k n ≡ 0
unfolding one_if
one_other k n differs = ap (λ b. cond b 1 0) (ne_eqb n k differs)

pub one_or_none : (k n : ℕ) → ((n ≡ k) × (one_if k n ≡ 1)) ⊎ (one_if k n ≡ 0)
unfolding one_if
one_or_none k n = elim (cases_Bool (n == k)) [
  | inl same ↦ inl (eqb-true n k same, ap (λ b. cond b 1 0) same)
  | inr other ↦ inr (ap (λ b. cond b 1 0) other)
]

pub count_append : (k : ℕ) (xs ys : List ℕ) → count_in k (xs ++ ys) ≡ count_in k xs + count_in k ys
count_append k [] ys = omega arith
count_append k (x ∷ xs) ys = let more = count_append k xs ys in omega arith

-- but for one of them
others_by : (k n x : ℕ) (xs : List ℕ) (b : Bool) → n ≢ k → (x == n) ≡ b → count_in k (others n xs) ≡ count_in k xs → count_in k (cond (not b) (x ∷ others n xs) (others n xs)) ≡ one_if k x + count_in k xs
others_by k n x xs true differs same more = more ∙ omega (arith, one_other k x (λ e. differs (sym (eqb-true x n same) ∙ e)))
others_by k n x xs false differs other more = omega (arith, more)

pub count_others : (k n : ℕ) (xs : List ℕ) → n ≢ k → count_in k (others n xs) ≡ count_in k xs
count_others k n [] differs = refl
count_others k n (x ∷ xs) differs = others_by k n x xs (x == n) differs refl (count_others k n xs differs)

itself_by : (n x : ℕ) (xs : List ℕ) (b : Bool) → (x == n) ≡ b → count_in n (others n xs) ≡ 0 → count_in n (cond (not b) (x ∷ others n xs) (others n xs)) ≡ 0
itself_by n x xs true same more = more
itself_by n x xs false other more = omega (arith, more, one_other n x (λ e. true≢false (sym (eq-eqb x n e) ∙ other)))

pub count_itself : (n : ℕ) (xs : List ℕ) → count_in n (others n xs) ≡ 0
count_itself n [] = refl
count_itself n (x ∷ xs) = itself_by n x xs (x == n) refl (count_itself n xs)

-- ---- once, and not at all

pub not_among : (n : ℕ) (xs : List ℕ) → count_in n xs ≡ 0 → IsNotAmong n xs
not_among n [] none = tt
not_among n (x ∷ xs) none = ((λ e. omega (arith, none, one_same n x e)), not_among n xs (omega (arith, none)))

pub each_once : (xs : List ℕ) → ((k : ℕ) → count_in k xs ≤ 1) → AreEachOnce xs
each_once [] once = tt
each_once (x ∷ xs) once = (not_among x xs (omega (arith, once x, one_same x x refl)), each_once xs (λ k. omega (arith, once k)))

pub apart : (xs ys : List ℕ) → ((k : ℕ) → 1 ≤ count_in k xs → count_in k ys ≡ 0) → AreApart xs ys
apart [] ys none = tt
apart (x ∷ xs) ys none = (not_among x ys (none x (omega (arith, one_same x x refl))), apart xs ys (λ k some. none k (omega (arith, some))))

pub all_counted : (P : ℕ → Type 0) (xs : List ℕ) → ((k : ℕ) → 1 ≤ count_in k xs → P k) → AllByRecursion P xs
all_counted P [] each = tt
all_counted P (x ∷ xs) each = (each x (omega (arith, one_same x x refl)), all_counted P xs (λ k some. each k (omega (arith, some))))
