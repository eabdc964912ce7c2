-- Reading as a machine that goes over the text byte by byte, and that it finds the one file.
use Rattle.std.proofs.Common.{◌≡◌, ◌≢◌, ℕ, Bool, true, false, cond, eqb, List, [], ◌∷◌, ◌++◌, refl, sym, subst, ap, ◌∙◌, inl, inr, ⊎_elim}
use Rattle.std.proofs.lemmas.Bool.{cases_eq, ne_eqb}
use Rattle.tftp_netascii.specs.{Reads, end, line_end, bare_return, itself, BeginsWithPair, file_of}

-- what is written by the end of these bytes, with a CR before them that is held back, or none
abbrev pub given : Bool → List ℕ → List ℕ
given holds [] = []
given false (x ∷ w) = cond (eqb x 13) (given true w) (x ∷ given false w)
given true (x ∷ w) = cond (eqb x 10) (10 ∷ given false w) (cond (eqb x 0) (13 ∷ given false w) (13 ∷ cond (eqb x 13) (given true w) (x ∷ given false w)))

-- whether a CR is held back then
abbrev pub after : Bool → List ℕ → Bool
after holds [] = holds
after false (x ∷ w) = cond (eqb x 13) (after true w) (after false w)
after true (x ∷ w) = cond (eqb x 10) (after false w) (cond (eqb x 0) (after false w) (cond (eqb x 13) (after true w) (after false w)))

abbrev pub held : Bool → List ℕ
held false = []
held true = 13 ∷ []

abbrev pub all_given : List ℕ → List ℕ
all_given w = given false w ++ held (after false w)

pub no_pair : (x : ℕ) (w : List ℕ) → x ≢ 13 → BeginsWithPair (x ∷ w) → ⊥
no_pair x [] n p = p
no_pair x (y ∷ w) n p = n p.0

itself_only : (x : ℕ) (w f : List ℕ) → (BeginsWithPair (x ∷ w) → ⊥) → f ≡ all_given w → x ∷ f ≡ all_given (x ∷ w)
itself_only x [] f n e =
    ⊎_elim
    (λ same. let at : eqb x 13 ≡ true = rw same refl in rw (at, e) (rw same refl))
    (λ other. let at : eqb x 13 ≡ false = ne_eqb x 13 other in rw (at, e) refl)
    (cases_eq x 13)
itself_only x (y ∷ w) f n e =
    ⊎_elim
    (λ same.
    let at : eqb x 13 ≡ true = rw same refl in
    let not_lf : eqb y 10 ≡ false = ne_eqb y 10 (λ is. n (same, inl is)) in
    let not_nul : eqb y 0 ≡ false = ne_eqb y 0 (λ is. n (same, inr is)) in
    rw (at, not_lf, not_nul) (rw same (ap (λ (f : List ℕ). 13 ∷ f) e)))
    (λ other. let at : eqb x 13 ≡ false = ne_eqb x 13 other in rw at (ap (λ (f : List ℕ). x ∷ f) e))
    (cases_eq x 13)

only : (w f : List ℕ) → Reads w f → f ≡ all_given w
only _ _ end = refl
only _ _ (line_end w f r) = ap (λ (f : List ℕ). 10 ∷ f) (only w f r)
only _ _ (bare_return w f r) = ap (λ (f : List ℕ). 13 ∷ f) (only w f r)
only _ _ (itself x w f n r) = itself_only x w f n (only w f r)

-- a text reads as one file
pub Reads-unique : (w f g : List ℕ) → Reads w f → Reads w g → f ≡ g
Reads-unique w f g r s = only w f r ∙ sym (only w g s)

-- and that is the file of the definition
after_return : (y : ℕ) (w : List ℕ) → Reads w (file_of w) → Reads (y ∷ w) (file_of (y ∷ w)) → Reads (13 ∷ y ∷ w) (file_of (13 ∷ y ∷ w))
after_return y w rest last =
    ⊎_elim
    (λ same. subst (λ (z : ℕ). Reads (13 ∷ z ∷ w) (file_of (13 ∷ z ∷ w))) (sym same) (line_end w (file_of w) rest))
    (λ not_lf. ⊎_elim
    (λ same. subst (λ (z : ℕ). Reads (13 ∷ z ∷ w) (file_of (13 ∷ z ∷ w))) (sym same) (bare_return w (file_of w) rest))
    (λ not_nul.
    let at : eqb y 10 ≡ false = ne_eqb y 10 not_lf in
    let at_nul : eqb y 0 ≡ false = ne_eqb y 0 not_nul in
    rw (at, at_nul) (itself 13 (y ∷ w) (file_of (y ∷ w)) (λ p. ⊎_elim not_lf not_nul p.1) last))
    (cases_eq y 0))
    (cases_eq y 10)

pub Reads-file_of : (w : List ℕ) → Reads w (file_of w)
Reads-file_of [] = end
Reads-file_of (x ∷ []) = itself x [] [] (λ p. p) end
Reads-file_of (x ∷ y ∷ w) =
    ⊎_elim
    (λ same. subst (λ (z : ℕ). Reads (z ∷ y ∷ w) (file_of (z ∷ y ∷ w))) (sym same) (after_return y w (Reads-file_of w) (Reads-file_of (y ∷ w))))
    (λ other.
    let at : eqb x 13 ≡ false = ne_eqb x 13 other in
    rw at (itself x (y ∷ w) (file_of (y ∷ w)) (no_pair x (y ∷ w) other) (Reads-file_of (y ∷ w))))
    (cases_eq x 13)

pub Reads-is : (w f : List ℕ) → Reads w f → f ≡ file_of w
Reads-is w f reads = Reads-unique w f (file_of w) reads (Reads-file_of w)

-- a CR after a text is itself, and changes nothing before it
pub Reads-push_return : (w f : List ℕ) → Reads w f → Reads (w ++ 13 ∷ []) (f ++ 13 ∷ [])
Reads-push_return _ _ end = itself 13 [] [] (λ p. p) end
Reads-push_return _ _ (line_end w f r) = line_end _ _ (Reads-push_return w f r)
Reads-push_return _ _ (bare_return w f r) = bare_return _ _ (Reads-push_return w f r)
Reads-push_return _ _ (itself x w f n r) = itself x _ _ (not_pair x w n) (Reads-push_return w f r)
  where
    not_pair : (x : ℕ) (w : List ℕ) → (BeginsWithPair (x ∷ w) → ⊥) → BeginsWithPair (x ∷ w ++ 13 ∷ []) → ⊥
    not_pair x [] n p = ⊎_elim (λ e. cc) (λ e. cc) p.1
    not_pair x (y ∷ w) n p = n p
