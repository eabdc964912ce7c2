-- Bytes that are read one by one, where the file is written over the text.
use Rattle.std.proofs.Common.{◌≡◌, ◌≢◌, ℕ, true, false, eqb, not, List, [], ◌∷◌, ◌++◌, ◌+◌, ◌-◌, ◌<◌, ◌≤◌, ◌&&◌, ◌||◌, length, take, drop, refl, sym, ap, ◌∙◌, subst, ⊎_elim, append_assoc, arith, length-append}
use Rattle.std.proofs.Math.ListN.{set}
use Rattle.std.specs.Int.{from_bool}
use Rattle.std.proofs.lemmas.Bool.{cases_eq, ne_eqb}
use Rattle.std.proofs.lemmas.List.{append-nil, length-take-le, take-take, take_at, take-set, take_more_set, drop-set-lt, drop-drop, length-drop}
use Rattle.tftp_netascii.specs.{file_of, file_at, ReadsAfterReturn}
use Rattle.tftp_netascii.proofs.ReadsLemmas.{held, Reads-file_of, Reads-is}
use Rattle.tftp_netascii.proofs.RunReads.{return_reads}
use Rattle.tftp_netascii.proofs.Moved.{left_of_tail}

-- What is kept and what the rest reads as make the file. If the last byte was a CR, it is kept and may yet change.
abbrev pub Written : ℕ → List ℕ → List ℕ → List ℕ → Type 0
Written before kept rest file =
    (front : List ℕ) × (kept ≡ front ++ held (eqb before 13)) × (front ++ file_of (held (eqb before 13) ++ rest) ≡ file)

-- ---- what one byte more makes

plain : (x : ℕ) (w : List ℕ) → x ≢ 13 → file_of (x ∷ w) ≡ x ∷ file_of w
plain x [] n = refl
plain x (y ∷ w) n = let at : eqb x 13 ≡ false = ne_eqb x 13 n in rw at refl

alone : (x : ℕ) (kept rest file : List ℕ) → kept ++ file_of (x ∷ rest) ≡ file → Written x (kept ++ x ∷ []) rest file
alone x kept rest file e =
    ⊎_elim
    (λ same.
    subst (λ y. Written y (kept ++ y ∷ []) rest file) (sym same)
    (kept, refl, subst (λ y. kept ++ file_of (y ∷ rest) ≡ file) same e))
    (λ other.
    let at : eqb x 13 ≡ false = ne_eqb x 13 other in
    rw at (kept ++ x ∷ [], sym (append-nil (kept ++ x ∷ [])), append_assoc kept (x ∷ []) (file_of rest) ∙ ap (λ l. kept ++ l) (sym (plain x rest other)) ∙ e))
    (cases_eq x 13)

line_ended : (x : ℕ) (front rest file : List ℕ) → x ≡ 10 → front ++ file_of (13 ∷ x ∷ rest) ≡ file → Written x (front ++ x ∷ []) rest file
line_ended x front rest file same e =
    subst (λ y. Written y (front ++ y ∷ []) rest file) (sym same)
    (front ++ 10 ∷ [], sym (append-nil (front ++ 10 ∷ [])), append_assoc front (10 ∷ []) (file_of rest) ∙ subst (λ y. front ++ file_of (13 ∷ y ∷ rest) ≡ file) same e)

returned : (x : ℕ) (front rest file : List ℕ) → x ≡ 0 → front ++ file_of (13 ∷ x ∷ rest) ≡ file → Written x (front ++ 13 ∷ []) rest file
returned x front rest file same e =
    subst (λ y. Written y (front ++ 13 ∷ []) rest file) (sym same)
    (front ++ 13 ∷ [], sym (append-nil (front ++ 13 ∷ [])), append_assoc front (13 ∷ []) (file_of rest) ∙ subst (λ y. front ++ file_of (13 ∷ y ∷ rest) ≡ file) same e)

apart : (x : ℕ) (front rest file : List ℕ) → x ≢ 10 → x ≢ 0 → front ++ file_of (13 ∷ x ∷ rest) ≡ file → Written x ((front ++ 13 ∷ []) ++ x ∷ []) rest file
apart x front rest file not_lf not_nul e =
    let at_lf : eqb x 10 ≡ false = ne_eqb x 10 not_lf in
    let at_nul : eqb x 0 ≡ false = ne_eqb x 0 not_nul in
    let itself : file_of (13 ∷ x ∷ rest) ≡ 13 ∷ file_of (x ∷ rest) = rw (at_lf, at_nul) refl in
    alone x (front ++ 13 ∷ []) rest file (append_assoc front (13 ∷ []) (file_of (x ∷ rest)) ∙ ap (λ l. front ++ l) (sym itself) ∙ e)

-- ---- where it stands

before_return : (bytes front : List ℕ) (written : ℕ) → written ≤ length bytes → take written bytes ≡ front ++ 13 ∷ [] → (1 ≤ written) × (take (written - 1) bytes ≡ front)
before_return bytes front written low kept =
    let size : written ≡ length front + 1 = sym (length-take-le written bytes low) ∙ ap length kept ∙ length-append front (13 ∷ []) in
    let at : length front ≡ written - 1 = omega (arith, size) in
    (omega (arith, size), sym (take-take (written - 1) written bytes (omega arith)) ∙ ap (λ l. take (written - 1) l) kept ∙ take_at front (13 ∷ []) (written - 1) at)

module _ (bytes file : List ℕ) (index written before x less more : ℕ) (behind : written ≤ index) (within : index < length bytes) (here : drop index bytes ≡ x ∷ drop (index + 1) bytes) where
  abbrev rest : List ℕ
  rest = drop (index + 1) bytes

  abbrev Next : ℕ → ℕ → Type 0
  Next at count = (count ≤ index + 1) × Written x (take count (set bytes at x)) (drop (index + 1) (set bytes at x)) file

  next : (at count : ℕ) (kept : List ℕ) → at ≤ index → count ≤ index + 1 → take count (set bytes at x) ≡ kept → Written x kept rest file → at ≡ written - less → count ≡ written - less + more → Next (written - less) (written - less + more)
  next at count kept low few is writes there up_to =
      subst (λ k. Next (written - less) k) up_to (subst (λ k. Next k count) there
      (few, subst (λ l. Written x (take count (set bytes at x)) l file) (sym (drop-set-lt (index + 1) bytes at x (omega (arith, low)))) (subst (λ l. Written x l rest file) (sym is) writes)))

  put : (at : ℕ) → at ≤ index → take (at + 1) (set bytes at x) ≡ take at bytes ++ x ∷ []
  put at low = take_more_set bytes at x (omega (arith, low, within))

  with_none : eqb before 13 ≡ false → Written before (take written bytes) (drop index bytes) file
      → less ≡ from_bool (eqb before 13 && eqb x 10) → more ≡ from_bool (not (eqb before 13) || not (eqb x 0)) → Next (written - less) (written - less + more)
  with_none none so_far less_is more_is =
      let (front, kept, makes) = rw none at so_far in
      let zero : less ≡ 0 = less_is ∙ rw none refl in
      let one : more ≡ 1 = more_is ∙ rw none refl in
      let all : take written bytes ++ file_of (x ∷ rest) ≡ file =
      ap (λ l. l ++ file_of (x ∷ rest)) (kept ∙ append-nil front) ∙ ap (λ l. front ++ file_of l) (sym here) ∙ makes in
      next written (written + 1) (take written bytes ++ x ∷ []) behind (omega (arith, behind)) (put written behind) (alone x (take written bytes) rest file all) (omega (arith, zero)) (omega (arith, zero, one))

  with_return : eqb before 13 ≡ true → Written before (take written bytes) (drop index bytes) file
      → less ≡ from_bool (eqb before 13 && eqb x 10) → more ≡ from_bool (not (eqb before 13) || not (eqb x 0)) → Next (written - less) (written - less + more)
  with_return holds so_far less_is more_is =
      let (front, kept, makes) = rw holds at so_far in
      let all : front ++ file_of (13 ∷ x ∷ rest) ≡ file = ap (λ l. front ++ file_of (13 ∷ l)) (sym here) ∙ makes in
      let (some, fronts) = before_return bytes front written (omega (arith, behind, within)) kept in
      ⊎_elim
      (λ same.
      let at : eqb x 10 ≡ true = rw same refl in
      let at_nul : eqb x 0 ≡ false = rw same refl in
      let one_less : less ≡ 1 = less_is ∙ rw (holds, at) refl in
      let one_more : more ≡ 1 = more_is ∙ rw (holds, at_nul) refl in
      next (written - 1) (written - 1 + 1) (front ++ x ∷ []) (omega (arith, behind)) (omega (arith, behind, some))
      (put (written - 1) (omega (arith, behind)) ∙ ap (λ l. l ++ x ∷ []) fronts) (line_ended x front rest file same all) (omega (arith, one_less)) (omega (arith, one_less, one_more)))
      (λ not_lf. ⊎_elim
      (λ same.
      let at : eqb x 10 ≡ false = ne_eqb x 10 not_lf in
      let at_nul : eqb x 0 ≡ true = rw same refl in
      let zero : less ≡ 0 = less_is ∙ rw (holds, at) refl in
      let none : more ≡ 0 = more_is ∙ rw (holds, at_nul) refl in
      next written written (front ++ 13 ∷ []) behind (omega (arith, behind)) (take-set bytes written x ∙ kept) (returned x front rest file same all) (omega (arith, zero)) (omega (arith, zero, none)))
      (λ not_nul.
      let at : eqb x 10 ≡ false = ne_eqb x 10 not_lf in
      let at_nul : eqb x 0 ≡ false = ne_eqb x 0 not_nul in
      let zero : less ≡ 0 = less_is ∙ rw (holds, at) refl in
      let one : more ≡ 1 = more_is ∙ rw (holds, at_nul) refl in
      next written (written + 1) ((front ++ 13 ∷ []) ++ x ∷ []) behind (omega (arith, behind)) (put written behind ∙ ap (λ l. l ++ x ∷ []) kept) (apart x front rest file not_lf not_nul all)
      (omega (arith, zero)) (omega (arith, zero, one)))
      (cases_eq x 0))
      (cases_eq x 10)

  pub step : Written before (take written bytes) (drop index bytes) file → less ≡ from_bool (eqb before 13 && eqb x 10) → more ≡ from_bool (not (eqb before 13) || not (eqb x 0))
      → (written - less + more ≤ index + 1) × Written x (take (written - less + more) (set bytes (written - less) x)) (drop (index + 1) (set bytes (written - less) x)) file
  step so_far less_is more_is =
      ⊎_elim
      (λ same. let at : eqb before 13 ≡ true = rw same refl in with_return at so_far less_is more_is)
      (λ other. with_none (ne_eqb before 13 other) so_far less_is more_is)
      (cases_eq before 13)

-- ---- at the end of the bytes

pub ended : (bytes file : List ℕ) (end written before : ℕ) → before ≢ 13 → Written before (take written bytes) (drop end bytes) file → file_at bytes end written ≡ file
ended bytes file end written before other so_far =
    let none : eqb before 13 ≡ false = ne_eqb before 13 other in
    let (front, kept, makes) = rw none at so_far in
    ap (λ l. l ++ file_of (drop end bytes)) (kept ∙ append-nil front) ∙ makes

module _ (bytes file after : List ℕ) (end written byte : ℕ) (behind : written ≤ end) (within : end ≤ length bytes) (stands : ReadsAfterReturn (drop end bytes) byte after) where
  abbrev next_place : ℕ
  next_place = length bytes - length after

  left : (after ≡ drop next_place bytes) × (end ≤ next_place) × (next_place ≤ length bytes)
  left =
      let (is, few) = left_of_tail (drop end bytes) after byte stands in
      let size = length-drop end bytes in
      let at : end + (length (drop end bytes) - length after) ≡ next_place = omega (arith, few, size, within) in
      (is ∙ drop-drop (length (drop end bytes) - length after) end bytes ∙ ap (λ n. drop n bytes) at, omega (arith, few, size, within), omega arith)

  pub further : (end ≤ next_place) × (next_place ≤ length bytes)
  further = (left.1, left.2)

  pub ended_by_return : Written 13 (take written bytes) (drop end bytes) file → (1 ≤ written) × (file_at (set bytes (written - 1) byte) next_place written ≡ file)
  ended_by_return so_far =
      let (front, kept, makes) = so_far in
      let (some, fronts) = before_return bytes front written (omega (arith, behind, within)) kept in
      let low = left.1 in
      let up : written - 1 + 1 ≡ written = omega (arith, some) in
      let ahead : take written (set bytes (written - 1) byte) ≡ front ++ byte ∷ [] =
      ap (λ n. take n (set bytes (written - 1) byte)) (sym up) ∙ take_more_set bytes (written - 1) byte (omega (arith, some, behind, within)) ∙ ap (λ l. l ++ byte ∷ []) fronts in
      let rest : drop next_place (set bytes (written - 1) byte) ≡ after = drop-set-lt next_place bytes (written - 1) byte (omega (arith, some, behind, low)) ∙ sym left.0 in
      let reads : byte ∷ file_of after ≡ file_of (13 ∷ drop end bytes) =
      Reads-is (13 ∷ drop end bytes) (byte ∷ file_of after) (return_reads (drop end bytes) after (file_of after) byte stands (Reads-file_of after)) in (
        some,
        ap (λ l. l ++ file_of (drop next_place (set bytes (written - 1) byte))) ahead ∙ ap (λ l. (front ++ byte ∷ []) ++ file_of l) rest
            ∙ append_assoc front (byte ∷ []) (file_of after) ∙ ap (λ l. front ++ l) reads ∙ makes,
      )
