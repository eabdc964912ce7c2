-- What is put to a line, one text after another.
use Rattle.std.proofs.Common.{◌≡◌, ◌++◌, ℕ, List, Result, Ok, Err, OnOk, ap, ◌∙◌, append_assoc}

-- a text, and then another
pub puts_both : (a b c xs ys : List ℕ) → b ≡ a ++ xs → c ≡ b ++ ys → c ≡ a ++ (xs ++ ys)
puts_both a b c xs ys p q = q ∙ (ap (λ l. l ++ ys) p ∙ append_assoc a xs ys)

-- that where the last call may fail
pub puts_last : {E : Type 0} (r : Result (Unit {0}) E) (a b c xs ys : List ℕ) → b ≡ a ++ xs → OnOk r (c ≡ b ++ ys) → OnOk r (c ≡ a ++ (xs ++ ys))
puts_last (Ok u) a b c xs ys p q = puts_both a b c xs ys p q
puts_last (Err e) a b c xs ys p q = tt
