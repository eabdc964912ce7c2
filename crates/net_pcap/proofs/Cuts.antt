-- Lists cut at places.
use Rattle.std.proofs.Common.{◌≡◌, ℕ, ◌+◌, ◌-◌, ◌*◌, ◌/◌, ◌%◌, ◌<◌, ◌≤◌, List, [], ◌∷◌, ◌++◌, length, take, drop, refl, sym, ap, ◌∙◌, arith}
use Rattle.std.specs.List.{slice_range}
use Rattle.std.proofs.lemmas.List.{take_all, take-append-drop, length-drop, length-take-le}
use Rattle.std.proofs.lemmas.List.Folds.{drop_split}
use Rattle.std.proofs.lemmas.Grind.{common_steps}

-- the bytes after the first n, as a slice has them
abbrev pub after : ℕ → List ℕ → List ℕ
after n bytes = take (length bytes - n) (drop n bytes)

pub after_is_drop : (n : ℕ) (bytes : List ℕ) → after n bytes ≡ drop n bytes
after_is_drop n bytes = take_all (length bytes - n) (drop n bytes) (omega (arith, length-drop n bytes))

pub drop_twice : (m n : ℕ) (xs : List ℕ) → drop m (drop n xs) ≡ drop (n + m) xs
drop_twice m n xs = grind (arith, common_steps)

-- a list, cut at two places
pub three_parts : (i j : ℕ) (s : List ℕ) → i ≤ j → s ≡ take i s ++ (slice_range s i j ++ drop j s)
three_parts i j s h = sym (take-append-drop i s) ∙ ap (λ l. take i s ++ l) (drop_split s i j h)

pub length-slice_range : (i j : ℕ) (s : List ℕ) → j ≤ length s → length (slice_range s i j) ≡ j - i
length-slice_range i j s h = length-take-le (j - i) (drop i s) (omega (arith, length-drop i s))

-- of two lists that are joined to the same, the first parts are the same where they are as long
pub cut_one : (a b x y : List ℕ) → length a ≡ length b → a ++ x ≡ b ++ y → (a ≡ b) × (x ≡ y)
cut_one [] [] x y sized e = (refl, e)
cut_one [] (c ∷ b) x y sized e = absurd (omega (arith, sized))
cut_one (c ∷ a) [] x y sized e = absurd (omega (arith, sized))
cut_one (c ∷ a) (d ∷ b) x y sized e =
    let first : c ≡ d = cc in
    let others : a ++ x ≡ b ++ y = cc in
    let rest = cut_one a b x y (omega (arith, sized)) others in
    (λ i. first i ∷ rest.0 i, rest.1)

-- a number rounded up to a multiple of four
pub rounded : (n : ℕ) → (n ≤ (n + 3) / 4 * 4) × ((n + 3) / 4 * 4 < n + 4) × ((n + 3) / 4 * 4 % 4 ≡ 0)
rounded n = (omega arith, omega arith, omega arith)
