-- What a decoder stands for, as the machine goes over more bytes.
use Rattle.std.proofs.Common.{◌≡◌, ◌≢◌, ℕ, ◌≤◌, Bool, true, false, eqb, List, [], ◌∷◌, ◌++◌, length, inl, inr, refl, sym, ap, ◌∙◌, subst, ⊎_elim, arith}
use Rattle.std.proofs.lemmas.Bool.{cases_eq, ne_eqb, cases_Bool}
use Rattle.std.proofs.lemmas.List.{append-nil, append_cancel_right}
use Rattle.std.proofs.lemmas.List.Elements.{recursion_from_All}
use Rattle.std.specs.List.{All, AllByRecursion}
use Rattle.tftp_netascii.specs.{Reads, end, line_end, bare_return, itself, BeginsWithPair, StandsFor, EndsInReturn, ReadsAfterReturn}
use Rattle.tftp_netascii.proofs.ReadsLemmas.{given, after, held, no_pair, Reads-unique, Reads-push_return}

-- how a text ends, with one byte more before it
not_empty_ends : (before : List ℕ) → [] ≡ before ++ 13 ∷ [] → ⊥
not_empty_ends [] e = cc
not_empty_ends (x ∷ before) e = cc

ends_past : (x y : ℕ) (w before : List ℕ) → x ∷ y ∷ w ≡ before ++ 13 ∷ [] → EndsInReturn (y ∷ w)
ends_past x y w [] e = cc
ends_past x y w (z ∷ before) e = let tail : y ∷ w ≡ before ++ 13 ∷ [] = cc in (before, tail)

ends_past_other : (x : ℕ) (w before : List ℕ) → x ≢ 13 → x ∷ w ≡ before ++ 13 ∷ [] → EndsInReturn w
ends_past_other x w [] n e = let same : x ≡ 13 = cc in absurd (n same)
ends_past_other x w (z ∷ before) n e = let tail : w ≡ before ++ 13 ∷ [] = cc in (before, tail)

-- one byte or one pair more before what was fed
with_other : (b : Bool) (x : ℕ) (w g : List ℕ) → x ≢ 13 → StandsFor b w g → StandsFor b (x ∷ w) (x ∷ g)
with_other false x w g n s = ((λ ends. s.0 (ends_past_other x w ends.0 n ends.1)), itself x w g (no_pair x w n) s.1)
with_other true x w g n s = (x ∷ s.0, ap (λ (v : List ℕ). x ∷ v) s.1, itself x s.0 g (no_pair x s.0 n) s.2)

not_returned : (y : ℕ) (w : List ℕ) → y ≢ 13 → (EndsInReturn w → ⊥) → EndsInReturn (13 ∷ y ∷ w) → ⊥
not_returned y w n s ends = let tail = ends_past 13 y w ends.0 ends.1 in s (ends_past_other y w tail.0 n tail.1)

with_line_end : (b : Bool) (w g : List ℕ) → StandsFor b w g → StandsFor b (13 ∷ 10 ∷ w) (10 ∷ g)
with_line_end false w g s = (not_returned 10 w (λ e. cc) s.0, line_end w g s.1)
with_line_end true w g s = (13 ∷ 10 ∷ s.0, ap (λ (v : List ℕ). 13 ∷ 10 ∷ v) s.1, line_end s.0 g s.2)

with_bare_return : (b : Bool) (w g : List ℕ) → StandsFor b w g → StandsFor b (13 ∷ 0 ∷ w) (13 ∷ g)
with_bare_return false w g s = (not_returned 0 w (λ e. cc) s.0, bare_return w g s.1)
with_bare_return true w g s = (13 ∷ 0 ∷ s.0, ap (λ (v : List ℕ). 13 ∷ 0 ∷ v) s.1, bare_return s.0 g s.2)

no_pair_before : (x : ℕ) (w before : List ℕ) → x ≢ 10 → x ≢ 0 → x ∷ w ≡ before ++ 13 ∷ [] → BeginsWithPair (13 ∷ before) → ⊥
no_pair_before x w [] n m e p = p
no_pair_before x w (y ∷ before) n m e p =
    let same : x ≡ y = cc in
    ⊎_elim (λ is. n (same ∙ is)) (λ is. m (same ∙ is)) p.1

with_lone_return : (b : Bool) (x : ℕ) (w g : List ℕ) → x ≢ 10 → x ≢ 0 → StandsFor b (x ∷ w) g → StandsFor b (13 ∷ x ∷ w) (13 ∷ g)
with_lone_return false x w g n m s =
    ((λ ends. s.0 (ends_past 13 x w ends.0 ends.1)), itself 13 (x ∷ w) g (λ p. ⊎_elim n m p.1) s.1)
with_lone_return true x w g n m s =
    (13 ∷ s.0, ap (λ (v : List ℕ). 13 ∷ v) s.1, itself 13 s.0 g (no_pair_before x w s.0 n m s.1) s.2)

-- the machine stands for what it went over, from its start and from a CR
scanned_on : (x : ℕ) (w : List ℕ) → StandsFor (after false w) w (given false w) × StandsFor (after true w) (13 ∷ w) (given true w) → StandsFor (after false (x ∷ w)) (x ∷ w) (given false (x ∷ w))
scanned_on x w s =
    ⊎_elim
    (λ same. subst (λ (y : ℕ). StandsFor (after false (y ∷ w)) (y ∷ w) (given false (y ∷ w))) (sym same) s.1)
    (λ other. let at : eqb x 13 ≡ false = ne_eqb x 13 other in rw at (with_other (after false w) x w (given false w) other s.0))
    (cases_eq x 13)

scanned_from_return : (x : ℕ) (w : List ℕ) → StandsFor (after false w) w (given false w) → StandsFor (after false (x ∷ w)) (x ∷ w) (given false (x ∷ w)) → StandsFor (after true (x ∷ w)) (13 ∷ x ∷ w) (given true (x ∷ w))
scanned_from_return x w s t =
    ⊎_elim
    (λ same. subst (λ (y : ℕ). StandsFor (after true (y ∷ w)) (13 ∷ y ∷ w) (given true (y ∷ w))) (sym same) (with_line_end (after false w) w (given false w) s))
    (λ not_lf. ⊎_elim
    (λ same. subst (λ (y : ℕ). StandsFor (after true (y ∷ w)) (13 ∷ y ∷ w) (given true (y ∷ w))) (sym same) (with_bare_return (after false w) w (given false w) s))
    (λ not_nul.
    let at : eqb x 10 ≡ false = ne_eqb x 10 not_lf in
    let at_nul : eqb x 0 ≡ false = ne_eqb x 0 not_nul in
    rw (at, at_nul) (with_lone_return (after false (x ∷ w)) x w (given false (x ∷ w)) not_lf not_nul t))
    (cases_eq x 0))
    (cases_eq x 10)

scanned : (w : List ℕ) → StandsFor (after false w) w (given false w) × StandsFor (after true w) (13 ∷ w) (given true w)
scanned [] = (((λ ends. not_empty_ends ends.0 ends.1), end), ([], refl, end))
scanned (x ∷ w) =
    let rest = scanned w in
    let first = scanned_on x w rest in
    (first, scanned_from_return x w rest.0 first)

pub StandsFor-exists : (w : List ℕ) → StandsFor (after false w) w (given false w)
StandsFor-exists w = (scanned w).0

pub StandsFor-unique : (b c : Bool) (w g k : List ℕ) → StandsFor b w g → StandsFor c w k → (b ≡ c) × (g ≡ k)
StandsFor-unique false false w g k s t = (refl, Reads-unique w g k s.1 t.1)
StandsFor-unique false true w g k s t = absurd (s.0 (t.0, t.1))
StandsFor-unique true false w g k s t = absurd (t.0 (s.0, s.1))
StandsFor-unique true true w g k s t =
    let same : s.0 ≡ t.0 = append_cancel_right s.0 t.0 (13 ∷ []) (sym s.1 ∙ t.1) in
    (refl, Reads-unique t.0 g k (subst (λ (v : List ℕ). Reads v g) same s.2) t.2)

-- what was fed reads as what was written and the CR that is held back
pub Reads-finished : (b : Bool) (w g : List ℕ) → StandsFor b w g → Reads w (g ++ held b)
Reads-finished false w g s = rw append-nil s.1
Reads-finished true w g s = rw s.1 (Reads-push_return s.0 g s.2)

pub Reads-exists : (w : List ℕ) → (f : List ℕ) × Reads w f
Reads-exists w = (given false w ++ held (after false w), Reads-finished _ w _ (StandsFor-exists w))

-- the machine goes on where it stopped
after_step : (x : ℕ) (u v : List ℕ) → after true (u ++ v) ≡ after (after true u) v → after false (u ++ v) ≡ after (after false u) v → after false (x ∷ u ++ v) ≡ after (after false (x ∷ u)) v
after_step x u v returned plain =
    ⊎_elim (λ (e : eqb x 13 ≡ true). rw e returned) (λ (e : eqb x 13 ≡ false). rw e plain) (cases_Bool (eqb x 13))

pub after-append : (b : Bool) (u v : List ℕ) → after b (u ++ v) ≡ after (after b u) v
after-append b [] v = refl
after-append false (x ∷ u) v = after_step x u v (after-append true u v) (after-append false u v)
after-append true (x ∷ u) v =
    ⊎_elim
    (λ (e : eqb x 10 ≡ true). rw e (after-append false u v))
    (λ (e : eqb x 10 ≡ false). ⊎_elim
    (λ (d : eqb x 0 ≡ true). rw (e, d) (after-append false u v))
    (λ (d : eqb x 0 ≡ false). rw (e, d) (after_step x u v (after-append true u v) (after-append false u v)))
    (cases_Bool (eqb x 0)))
    (cases_Bool (eqb x 10))

given_step : (x : ℕ) (u v : List ℕ) → given true (u ++ v) ≡ given true u ++ given (after true u) v → given false (u ++ v) ≡ given false u ++ given (after false u) v → given false (x ∷ u ++ v) ≡ given false (x ∷ u) ++ given (after false (x ∷ u)) v
given_step x u v returned plain =
    ⊎_elim
    (λ (e : eqb x 13 ≡ true). rw e returned)
    (λ (e : eqb x 13 ≡ false). rw e (ap (λ (w : List ℕ). x ∷ w) plain))
    (cases_Bool (eqb x 13))

pub given-append : (b : Bool) (u v : List ℕ) → given b (u ++ v) ≡ given b u ++ given (after b u) v
given-append b [] v = refl
given-append false (x ∷ u) v = given_step x u v (given-append true u v) (given-append false u v)
given-append true (x ∷ u) v =
    ⊎_elim
    (λ (e : eqb x 10 ≡ true). rw e (ap (λ (w : List ℕ). 10 ∷ w) (given-append false u v)))
    (λ (e : eqb x 10 ≡ false). ⊎_elim
    (λ (d : eqb x 0 ≡ true). rw (e, d) (ap (λ (w : List ℕ). 13 ∷ w) (given-append false u v)))
    (λ (d : eqb x 0 ≡ false). rw (e, d) (ap (λ (w : List ℕ). 13 ∷ w) (given_step x u v (given-append true u v) (given-append false u v))))
    (cases_Bool (eqb x 0)))
    (cases_Bool (eqb x 10))

-- a history goes on by what the machine makes of more bytes
pub StandsFor-append : (b : Bool) (fed written piece : List ℕ) → StandsFor b fed written → StandsFor (after b piece) (fed ++ piece) (written ++ given b piece)
StandsFor-append b fed written piece s =
    let same = StandsFor-unique b (after false fed) fed written (given false fed) s (StandsFor-exists fed) in
    rw (same.0, same.1, ← after-append false fed piece, ← given-append false fed piece) (StandsFor-exists (fed ++ piece))

-- what the machine makes of a run with no CR, and of a CR that was held back
given_run : (run rest : List ℕ) → AllByRecursion (λ x. x ≢ 13) run → given false (run ++ rest) ≡ run ++ given false rest
given_run [] rest plain = refl
given_run (x ∷ run) rest plain =
    let at : eqb x 13 ≡ false = ne_eqb x 13 plain.0 in
    rw at (ap (λ (w : List ℕ). x ∷ w) (given_run run rest plain.1))

after_run : (run rest : List ℕ) → AllByRecursion (λ x. x ≢ 13) run → after false (run ++ rest) ≡ after false rest
after_run [] rest plain = refl
after_run (x ∷ run) rest plain =
    let at : eqb x 13 ≡ false = ne_eqb x 13 plain.0 in
    rw at (after_run run rest plain.1)

pub given-to_return : (b : Bool) (rest run tail : List ℕ) → b ≡ false → rest ≡ run ++ 13 ∷ tail → All (λ x. x ≢ 13) run → given b rest ≡ run ++ given true tail
given-to_return b rest run tail empty parts plain = rw (empty, parts) (given_run run (13 ∷ tail) (recursion_from_All _ run plain))

pub after-to_return : (b : Bool) (rest run tail : List ℕ) → b ≡ false → rest ≡ run ++ 13 ∷ tail → All (λ x. x ≢ 13) run → after b rest ≡ after true tail
after-to_return b rest run tail empty parts plain = rw (empty, parts) (after_run run (13 ∷ tail) (recursion_from_All _ run plain))

pub given-to_end : (b : Bool) (rest : List ℕ) → b ≡ false → All (λ x. x ≢ 13) rest → given b rest ≡ rest
given-to_end b rest empty plain =
    rw empty (ap (given false) (sym (append-nil rest)) ∙ given_run rest [] (recursion_from_All _ rest plain) ∙ append-nil rest)

pub after-to_end : (b : Bool) (rest : List ℕ) → b ≡ false → All (λ x. x ≢ 13) rest → after b rest ≡ b
after-to_end b rest empty plain =
    rw empty (ap (after false) (sym (append-nil rest)) ∙ after_run rest [] (recursion_from_All _ rest plain))

-- what the machine makes of bytes after a CR, by what that stands for
pub past_return : (tail rest : List ℕ) (byte : ℕ) → length tail ≢ 0 → ReadsAfterReturn tail byte rest → (given true tail ≡ byte ∷ given false rest) × (after true tail ≡ after false rest)
past_return [] rest byte some stands = absurd (some refl)
past_return (y ∷ ys) rest byte some (inl feed) = rw (feed.0, feed.1, feed.2) (refl, refl)
past_return (y ∷ ys) rest byte some (inr (inl bare)) = rw (bare.0, bare.1, bare.2) (refl, refl)
past_return (y ∷ ys) rest byte some (inr (inr lone)) =
    let not_lf : eqb y 10 ≡ false = ne_eqb y 10 lone.0 in
    let not_nul : eqb y 0 ≡ false = ne_eqb y 0 lone.1 in
    rw (lone.2, lone.3, not_lf, not_nul) (refl, refl)

pub no_longer : (tail rest : List ℕ) (byte : ℕ) → ReadsAfterReturn tail byte rest → length rest ≤ length tail
no_longer [] rest byte stands = rw stands.1 (omega arith)
no_longer (y ∷ ys) rest byte (inl feed) = rw feed.2 (omega arith)
no_longer (y ∷ ys) rest byte (inr (inl bare)) = rw bare.2 (omega arith)
no_longer (y ∷ ys) rest byte (inr (inr lone)) = rw lone.3 (omega arith)
