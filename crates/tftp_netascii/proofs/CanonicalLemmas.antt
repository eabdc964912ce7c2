-- The canonical text of a file.
use Rattle.std.proofs.Common.{◌≡◌, ◌≢◌, ◌⊎◌, ℕ, Bool, true, false, cond, eqb, List, [], ◌∷◌, ◌++◌, refl, sym, ap, ◌∙◌, subst, ⊎_elim, ◌||◌, ◌+◌, length, arith}
use Rattle.std.proofs.lemmas.Bool.{cases_eq, ne_eqb}
use Rattle.std.proofs.lemmas.List.{append-nil, append_assoc, length-append}
use Rattle.std.proofs.lemmas.List.Sums.{sum_by-cons}
use Rattle.std.proofs.lemmas.List.Elements.{recursion_from_All}
use Rattle.std.specs.List.{All, AllByRecursion, count_by}
use Rattle.tftp_netascii.specs.{IsPlain, Reads, end, line_end, bare_return, itself, canonical_bytes, canonical_wire}
use Rattle.tftp_netascii.proofs.ReadsLemmas.{no_pair}

pub canonical_bytes-plain : (x : ℕ) → x ≢ 10 → x ≢ 13 → canonical_bytes x ≡ x ∷ []
canonical_bytes-plain x not_lf not_cr =
    let at : eqb x 10 ≡ false = ne_eqb x 10 not_lf in
    let at_cr : eqb x 13 ≡ false = ne_eqb x 13 not_cr in
    rw (at, at_cr) refl

pub canonical_bytes-line_feed : (x : ℕ) → x ≡ 10 → canonical_bytes x ≡ 13 ∷ 10 ∷ []
canonical_bytes-line_feed x same = rw same refl

pub canonical_bytes-return : (x : ℕ) → x ≢ 10 → (x ≡ 10) ⊎ (x ≡ 13) → canonical_bytes x ≡ 13 ∷ 0 ∷ []
canonical_bytes-return x not_lf control = ⊎_elim (λ same. absurd (not_lf same)) (λ same. rw same refl) control

pub Reads-canonical : (f : List ℕ) → Reads (canonical_wire f) f
Reads-canonical [] = end
Reads-canonical (x ∷ f) =
    ⊎_elim
    (λ same. subst (λ (y : ℕ). Reads (canonical_wire (y ∷ f)) (y ∷ f)) (sym same) (line_end _ _ (Reads-canonical f)))
    (λ not_lf. ⊎_elim
    (λ same. subst (λ (y : ℕ). Reads (canonical_wire (y ∷ f)) (y ∷ f)) (sym same) (bare_return _ _ (Reads-canonical f)))
    (λ not_cr. rw (canonical_bytes-plain x not_lf not_cr) (itself x _ _ (no_pair x _ not_cr) (Reads-canonical f)))
    (cases_eq x 13))
    (cases_eq x 10)

pub canonical_run : (run rest : List ℕ) → AllByRecursion IsPlain run → canonical_wire (run ++ rest) ≡ run ++ canonical_wire rest
canonical_run [] rest plain = refl
canonical_run (x ∷ run) rest plain =
    rw (canonical_bytes-plain x plain.0.0 plain.0.1) (ap (λ (w : List ℕ). x ∷ w) (canonical_run run rest plain.1))

canonical_wire-to_control : (rest run tail : List ℕ) (x : ℕ) → rest ≡ run ++ x ∷ tail → All IsPlain run → canonical_wire rest ≡ run ++ (canonical_bytes x ++ canonical_wire tail)
canonical_wire-to_control rest run tail x parts plain = rw parts (canonical_run run (x ∷ tail) (recursion_from_All _ run plain))

pub canonical_wire-to_end : (rest : List ℕ) → All IsPlain rest → canonical_wire rest ≡ rest
canonical_wire-to_end rest plain =
    ap canonical_wire (sym (append-nil rest)) ∙ canonical_run rest [] (recursion_from_All _ rest plain) ∙ append-nil rest

-- what is written grows by a run and the byte after it
pub canonical_wire-step : (wire rest run tail spelling : List ℕ) (x : ℕ) → rest ≡ run ++ x ∷ tail → All IsPlain run → spelling ≡ canonical_bytes x → wire ++ run ++ spelling ++ canonical_wire tail ≡ wire ++ canonical_wire rest
canonical_wire-step wire rest run tail spelling x parts plain spelled =
    append_assoc (wire ++ run) spelling _ ∙ append_assoc wire run _
    ∙ ap (λ (bytes : List ℕ). wire ++ (run ++ (bytes ++ canonical_wire tail))) spelled
    ∙ ap (λ (bytes : List ℕ). wire ++ bytes) (sym (canonical_wire-to_control rest run tail x parts plain))

-- each LF and each CR is one byte more
abbrev pub is_control : ℕ → Bool
is_control x = eqb x 10 || eqb x 13

bytes_of_tests : (lf cr : Bool) (x : ℕ) → length (cond lf (13 ∷ 10 ∷ []) (cond cr (13 ∷ 0 ∷ []) (x ∷ []))) ≡ 1 + cond (lf || cr) 1 0
bytes_of_tests true true x = refl
bytes_of_tests true false x = refl
bytes_of_tests false true x = refl
bytes_of_tests false false x = refl

-- one byte of a file more
pub length-canonical_cons : (x : ℕ) (f : List ℕ) → length (canonical_wire (x ∷ f)) ≡ 1 + cond (is_control x) 1 0 + length (canonical_wire f)
length-canonical_cons x f =
    let parts = length-append (canonical_bytes x) (canonical_wire f) in
    let first : length (canonical_bytes x) ≡ 1 + cond (is_control x) 1 0 = bytes_of_tests (eqb x 10) (eqb x 13) x in
    omega (arith, parts, first)

pub length-canonical_wire : (f : List ℕ) → length (canonical_wire f) ≡ length f + count_by is_control f
length-canonical_wire [] = refl
length-canonical_wire (x ∷ f) =
    let first = length-canonical_cons x f in
    let count : count_by is_control (x ∷ f) ≡ cond (is_control x) 1 0 + count_by is_control f = sum_by-cons (λ (x : ℕ). cond (is_control x) 1 0) x f in
    omega (arith, first, count, length-canonical_wire f)
