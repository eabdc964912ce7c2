-- What is counted of a text gives the lengths of the file that it reads as, and of the text that is written for it.
use Rattle.std.proofs.Common.{◌≡◌, ◌≢◌, ◌≤◌, ℕ, Bool, true, false, true≢false, cond, eqb, List, [], ◌∷◌, ◌+◌, length, ◌++◌, refl, ap, ◌∙◌, ⊎_elim, inl, inr, subst, sym, arith}
use Rattle.std.proofs.lemmas.Bool.{cases_eq, ne_eqb, cases_Bool}
use Rattle.tftp_netascii.specs.{Reads, end, line_end, bare_return, itself, BeginsWithPair, canonical_wire, file_of, count_after, begins_control, is_second}
use Rattle.tftp_netascii.proofs.ReadsLemmas.{Reads-file_of}
use Rattle.tftp_netascii.proofs.CanonicalLemmas.{is_control, canonical_bytes-plain, length-canonical_cons}

pub count_after-most : (test : ℕ → ℕ → Bool) (before : ℕ) (w : List ℕ) → count_after test before w ≤ length w
count_after-most test before [] = omega arith
count_after-most test before (x ∷ w) =
    let rest = count_after-most test x w in
    ⊎_elim (λ (e : test before x ≡ true). rw e (omega (arith, rest))) (λ (e : test before x ≡ false). rw e (omega (arith, rest))) (cases_Bool (test before x))

-- what is counted of the front of what is left, and what is counted in all
pub counted_on : (test : ℕ → ℕ → Bool) (so_far more before last : ℕ) (wire rest piece after : List ℕ) → so_far + count_after test before rest ≡ count_after test 0 wire → piece ++ after ≡ rest
    → more + count_after test last after ≡ count_after test before (piece ++ after) → so_far + more ≤ length wire
counted_on test so_far more before last wire rest piece after all parts front =
    let most = count_after-most test 0 wire in
    let same = ap (count_after test before) parts in
    omega (arith, most, all, same, front)

-- where nothing is left
pub counted_all : (test : ℕ → ℕ → Bool) (so_far before : ℕ) (wire rest : List ℕ) → so_far + count_after test before rest ≡ count_after test 0 wire → rest ≡ [] → so_far ≡ count_after test 0 wire
counted_all test so_far before wire rest all none =
    let nothing = ap (count_after test before) none in
    omega (arith, all, nothing)

-- where no pair stands, a CR before a text changes nothing of what is counted
unpaired : (w : List ℕ) → (BeginsWithPair (13 ∷ w) → ⊥)
    → (count_after is_second 13 w ≡ count_after is_second 0 w) × (count_after begins_control 13 w ≡ count_after begins_control 0 w)
unpaired [] none = (refl, refl)
unpaired (y ∷ w) none =
    let not_lf : eqb y 10 ≡ false = ne_eqb y 10 (λ is. none (refl, inl is)) in
    let not_nul : eqb y 0 ≡ false = ne_eqb y 0 (λ is. none (refl, inr is)) in
    rw (not_lf, not_nul) (refl, refl)

-- the file, and the text that is written for it, by what is counted after a byte that is no CR
abbrev Counted : ℕ → List ℕ → List ℕ → Type 0
Counted before w f = (length f + count_after is_second before w ≡ length w) × (length (canonical_wire f) ≡ length f + count_after begins_control before w)

by_itself : (before x : ℕ) (w f : List ℕ) → eqb before 13 ≡ false → eqb x 13 ≡ false → Counted x w f → Counted before (x ∷ w) (x ∷ f)
by_itself before x w f plain other rest =
    let (file, text) = rest in
    let written = length-canonical_cons x f in
    let begins : cond {A = ℕ} (is_control x) 1 0 ≡ cond {A = ℕ} (begins_control before x) 1 0 =
    ⊎_elim (λ (e : eqb x 10 ≡ true). rw (plain, other, e) refl) (λ (e : eqb x 10 ≡ false). rw (plain, other, e) refl) (cases_Bool (eqb x 10)) in
    let second : cond {A = ℕ} (is_second before x) 1 0 ≡ 0 = rw plain refl in
    (omega (arith, file, second), omega (arith, text, written, begins))

by_return : (before : ℕ) (w f : List ℕ) → eqb before 13 ≡ false → (BeginsWithPair (13 ∷ w) → ⊥) → Counted 0 w f → Counted before (13 ∷ w) (13 ∷ f)
by_return before w f plain none rest =
    let (file, text) = rest in
    let (seconds, controls) = unpaired w none in
    let written = length-canonical_cons 13 f in
    rw plain (omega (arith, file, seconds), omega (arith, text, controls, written))

counted : (before : ℕ) (w f : List ℕ) → eqb before 13 ≡ false → Reads w f → Counted before w f
counted before _ _ plain end = (refl, refl)
counted before _ _ plain (line_end w f reads) =
    let (file, text) = counted 10 w f refl reads in
    let written = length-canonical_cons 10 f in
    rw plain (omega (arith, file), omega (arith, text, written))
counted before _ _ plain (bare_return w f reads) =
    let (file, text) = counted 0 w f refl reads in
    let written = length-canonical_cons 13 f in
    rw plain (omega (arith, file), omega (arith, text, written))
counted before _ _ plain (itself x w f none reads) =
    ⊎_elim
    (λ same.
    subst (λ (y : ℕ). Counted before (y ∷ w) (y ∷ f)) (sym same)
    (by_return before w f plain (subst (λ (y : ℕ). BeginsWithPair (y ∷ w) → ⊥) same none) (counted 0 w f refl reads)))
    (λ other. by_itself before x w f plain (ne_eqb x 13 other) (counted x w f (ne_eqb x 13 other) reads))
    (cases_eq x 13)

-- the lengths by what is counted in all
pub file_counted : (w : List ℕ) → length (file_of w) + count_after is_second 0 w ≡ length w
file_counted w = (counted 0 w (file_of w) refl (Reads-file_of w)).0

pub encoded_counted : (w : List ℕ) → length (canonical_wire (file_of w)) ≡ length (file_of w) + count_after begins_control 0 w
encoded_counted w = (counted 0 w (file_of w) refl (Reads-file_of w)).1

-- a text that reads as a file is no longer than the one that is written for it
pub no_longer : (w f : List ℕ) → Reads w f → length w ≤ length (canonical_wire f)
no_longer _ _ end = omega arith
no_longer _ _ (line_end w f reads) = omega (arith, no_longer w f reads, length-canonical_cons 10 f)
no_longer _ _ (bare_return w f reads) = omega (arith, no_longer w f reads, length-canonical_cons 13 f)
no_longer _ _ (itself x w f none reads) = omega (arith, no_longer w f reads, length-canonical_cons x f)

longer_by_one : (m n : ℕ) → m ≤ n → 1 + m ≡ 1 + 1 + n → ⊥
longer_by_one m n most long = omega (arith, most, long)

no_line_feed : (x : ℕ) → is_control x ≡ false → x ≢ 10
no_line_feed x plain is = true≢false (sym (subst (λ (y : ℕ). is_control y ≡ true) (sym is) refl) ∙ plain)

no_return : (x : ℕ) → is_control x ≡ false → x ≢ 13
no_return x plain is = true≢false (sym (subst (λ (y : ℕ). is_control y ≡ true) (sym is) refl) ∙ plain)

-- and where it is as long, it is that one
pub as_long : (w f : List ℕ) → Reads w f → length w ≡ length (canonical_wire f) → w ≡ canonical_wire f
as_long _ _ end long = refl
as_long _ _ (line_end w f reads) long =
    let written = length-canonical_cons 10 f in
    ap (λ (t : List ℕ). 13 ∷ 10 ∷ t) (as_long w f reads (omega (arith, written, long)))
as_long _ _ (bare_return w f reads) long =
    let written = length-canonical_cons 13 f in
    ap (λ (t : List ℕ). 13 ∷ 0 ∷ t) (as_long w f reads (omega (arith, written, long)))
as_long _ _ (itself x w f none reads) long =
    let written = length-canonical_cons x f in
    let most = no_longer w f reads in
    ⊎_elim
    (λ (e : is_control x ≡ true).
    let cost : cond {A = ℕ} (is_control x) 1 0 ≡ 1 = rw e refl in
    absurd (longer_by_one (length w) (length (canonical_wire f)) most (omega (arith, long, written, cost))))
    (λ (e : is_control x ≡ false).
    let cost : cond {A = ℕ} (is_control x) 1 0 ≡ 0 = rw e refl in
    let same = as_long w f reads (omega (arith, long, written, cost)) in
    rw (canonical_bytes-plain x (no_line_feed x e) (no_return x e)) (ap (λ (t : List ℕ). x ∷ t) same))
    (cases_Bool (is_control x))
