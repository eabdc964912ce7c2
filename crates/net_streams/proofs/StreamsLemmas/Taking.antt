-- What was taken of the bytes that were read ahead.
use Rattle.std.proofs.Common.{ℕ, List, ◌++◌, take, drop, Option, None, Some, sym, ap, ◌∙◌, append_assoc, take-append-drop}
use Rattle.std.specs.Io.KnownBytes.{prepend_known, Consumes, Keeps}
use Rattle.std.proofs.KnownBytes.{Consumes-trans, Consumes-kept}

pub consumed : (known : Option (List ℕ)) (held : List ℕ) (n : ℕ) → Consumes (prepend_known held known) (prepend_known (drop n held) known) (take n held)
consumed None held n = tt
consumed (Some y) held n = ap (λ l. l ++ y) (sym (take-append-drop n held)) ∙ append_assoc (take n held) (drop n held) y

-- what was taken before, what was read ahead, and n bytes of it
pub taken_step : (k0 k1 known : Option (List ℕ)) (line held : List ℕ) (n : ℕ) → Consumes k0 k1 line → Keeps k1 (prepend_known held known)
    → Consumes k0 (prepend_known (drop n held) known) (line ++ take n held)
taken_step k0 k1 known line held n p q = Consumes-trans _ _ _ _ _ (Consumes-kept _ _ _ _ p q) (consumed known held n)
