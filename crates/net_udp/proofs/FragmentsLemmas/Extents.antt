-- What a test of each extent tells of all.
use Rattle.std.proofs.Common.{◌<◌, ◌↔◌, ℕ, zero, suc, Bool, true, false, IsTrue, MatchBool, inl, inr, List, [], ◌∷◌, length, refl, arith}
use Rattle.std.specs.List.{AllWithin, HoldsAt}
use Rattle.std.proofs.lemmas.Bool.{false≢true}
use Rattle.net_udp.specs.declared.fragments.extent.Extent.{Extent}
use Rattle.net_udp.specs.Fragments.{OneOf}

one_at : (P : Extent → Type 0) (es : List Extent) (k : ℕ) → k < length es → HoldsAt P es k → OneOf P es
one_at P [] k l h = absurd (omega (arith, l))
one_at P (e ∷ es) zero l h = inl (h e)
one_at P (e ∷ es) (suc k) l h = inr (one_at P es k (omega (arith, l)) h)

none_in : (P : Extent → Type 0) (es : List Extent) → AllWithin (λ e. P e → ⊥) es 0 (length es) → OneOf P es → ⊥
none_in P [] all one = one
none_in P (e ∷ es) all (inl p) = all 0 e (omega arith) (omega arith) p
none_in P (e ∷ es) all (inr one) = none_in P es (λ k d low high. all (suc k) d (omega arith) (omega (arith, high))) one

pub one_told : (P : Extent → Type 0) (r : Bool) (es : List Extent) → MatchBool r ((k : ℕ) × (k < length es) × HoldsAt P es k) (AllWithin (λ e. P e → ⊥) es 0 (length es)) → IsTrue r ↔ OneOf P es
one_told P true es found = (λ e. one_at P es found.0 found.1 found.2, λ one. refl)
one_told P false es none = (λ e. absurd (false≢true e), λ one. absurd (none_in P es none one))
