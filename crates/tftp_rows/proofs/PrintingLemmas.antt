-- Rows that are printed one after another.
use Rattle.std.proofs.Common.{◌≡◌, ◌⊎◌, ◌∷◌, ◌++◌, ◌||◌, [], ℕ, Bool, true, false, List, Option, Result, Ok, Err, IsErr, inl, inr, refl, sym, ap, subst, ◌∙◌, true≢false, append_assoc, append-nil}
use Rattle.std.specs.Io.KnownBytes.{Appends}
use Rattle.std.proofs.KnownBytes.{Appends-nil, Appends-trans}
use Rattle.net_streams.specs.Streams.{AppendsPrefix}
use Rattle.tftp_rows.specs.Printing.{Prints, PrintsAll, PrintsPart, all_lines, is_some_row}
use Rattle.tftp_rows.specs.declared.printing.Form.{Form}
use Rattle.tftp_rows.specs.declared.printing.RowPrinter.{RowPrinter}

some_or : {R : Type 0} (xs ys : List R) (b : Bool) → ((b || is_some_row xs) || is_some_row ys) ≡ (b || is_some_row (xs ++ ys))
some_or [] ys true = refl
some_or [] ys false = refl
some_or (x ∷ xs) ys true = refl
some_or (x ∷ xs) ys false = refl

-- the lines of some rows, and then those of others
pub lines_both : {R : Type 0} (lines : Bool → R → List ℕ) (b : Bool) (xs ys : List R) → all_lines lines b (xs ++ ys) ≡ all_lines lines b xs ++ all_lines lines (b || is_some_row xs) ys
lines_both lines true [] ys = refl
lines_both lines false [] ys = refl
lines_both lines true (x ∷ xs) ys = ap (λ l. lines true x ++ l) (lines_both lines true xs ys) ∙ sym (append_assoc (lines true x) (all_lines lines true xs) (all_lines lines true ys))
lines_both lines false (x ∷ xs) ys = ap (λ l. lines false x ++ l) (lines_both lines true xs ys) ∙ sym (append_assoc (lines false x) (all_lines lines true xs) (all_lines lines true ys))

-- the lines of one row
pub lines_one : {R : Type 0} (lines : Bool → R → List ℕ) (b : Bool) (row : R) → all_lines lines b (row ∷ []) ≡ lines b row
lines_one lines b row = append-nil (lines b row)

pub first_of_none : {X : Type 0} (xs ys : List X) → [] ≡ xs ++ ys → xs ≡ []
first_of_none [] ys e = refl
first_of_none (x ∷ xs) ys e = absurd (cc)

or_false : (b : Bool) → (b || false) ≡ b
or_false true = refl
or_false false = refl

or_true : (b : Bool) → (b || true) ≡ true
or_true true = refl
or_true false = refl

module _ {W R : Type 0} (contents : W → Option (List ℕ)) (lines : Form → Bool → R → List ℕ) where
  pub prints_nothing : (s : RowPrinter W) → PrintsAll contents lines s s []
  prints_nothing s = record { appended = Appends-nil (contents s.writer.0); form = refl; headed = nothing s.is_headed } where
    nothing : (b : Bool) → b ≡ (b || false)
    nothing true = refl
    nothing false = refl

  pub prints_both : (s t u : RowPrinter W) (xs ys : List R) → PrintsAll contents lines s t xs → PrintsAll contents lines t u ys → PrintsAll contents lines s u (xs ++ ys)
  prints_both s t u xs ys p q = record {
    appended = rw (lines_both (lines s.form) s.is_headed xs ys) (Appends-trans _ _ _ _ _ p.appended (rw p.headed at (rw p.form at q.appended)));
    form = q.form ∙ p.form;
    headed = q.headed ∙ ap (λ b. b || is_some_row ys) p.headed ∙ some_or xs ys s.is_headed;
  }

  -- some rows were printed, and then others in part
  pub prints_part : (s t u : RowPrinter W) (xs ys : List R) → PrintsAll contents lines s t xs → PrintsPart contents lines t u ys → PrintsPart contents lines s u (xs ++ ys)
  prints_part s t u xs ys p q =
      let first = all_lines (lines s.form) s.is_headed xs in
      record {
        written = first ++ q.written;
        unwritten = q.unwritten;
        part = lines_both (lines s.form) s.is_headed xs ys ∙ (ap (λ l. first ++ l) (rw p.headed at (rw p.form at q.part)) ∙ sym (append_assoc first q.written q.unwritten));
        appended = Appends-trans _ _ _ _ _ p.appended q.appended;
        form = q.form ∙ p.form;
        headed = headed_part xs ys s.is_headed t.is_headed u.is_headed q.written p.headed q.headed;
      } where
        headed_part : (xs ys : List R) (a b c : Bool) (written : List ℕ) → b ≡ (a || is_some_row xs) → ((written ≡ []) × (c ≡ b)) ⊎ ((c ≡ true) × (is_some_row ys ≡ true))
            → ((all_lines (lines s.form) s.is_headed xs ++ written ≡ []) × (c ≡ a)) ⊎ ((c ≡ true) × (is_some_row (xs ++ ys) ≡ true))
        headed_part [] ys a b c written e (inl same) = inl (same.0, same.1 ∙ e ∙ or_false a)
        headed_part (x ∷ xs) ys a b c written e (inl same) = inr (same.1 ∙ e ∙ or_true a, refl)
        headed_part [] ys a b c written e (inr some) = inr some
        headed_part (x ∷ xs) ys a b c written e (inr some) = inr (some.0, refl)

  -- nothing was printed
  pub prints_no_part : (s : RowPrinter W) (rows : List R) → PrintsPart contents lines s s rows
  prints_no_part s rows = record { written = []; unwritten = all_lines (lines s.form) s.is_headed rows; part = refl; appended = Appends-nil (contents s.writer.0); form = refl; headed = inl (refl, refl) }

  pub prints_err : {A E : Type 0} (s t : RowPrinter W) (r : Result A E) (rows : List R) → IsErr r → PrintsPart contents lines s t rows → Prints contents lines s t r rows
  prints_err s t (Ok x) rows is p = absurd (true≢false (sym is))
  prints_err s t (Err e) rows is p = p

  -- a part of a row's lines was written
  pub prints_short : (s t : RowPrinter W) (row : R) (bytes : List ℕ) → bytes ≡ lines s.form s.is_headed row → t.form ≡ s.form → t.is_headed ≡ true → AppendsPrefix (contents s.writer.0) (contents t.writer.0) bytes
      → PrintsPart contents lines s t (row ∷ [])
  prints_short s t row bytes are form headed w = record {
    written = w.written;
    unwritten = w.rest;
    part = lines_one (lines s.form) s.is_headed row ∙ (sym are ∙ w.are);
    appended = w.appended;
    form = form;
    headed = inr (headed, refl);
  }

  -- all of it is a part
  pub prints_all_so : (s t : RowPrinter W) (rows : List R) → PrintsAll contents lines s t rows → PrintsPart contents lines s t rows
  prints_all_so s t rows p = record {
    written = all_lines (lines s.form) s.is_headed rows;
    unwritten = [];
    part = sym (append-nil (all_lines (lines s.form) s.is_headed rows));
    appended = p.appended;
    form = p.form;
    headed = headed_so rows p.headed;
  } where
    headed_so : (rows : List R) → t.is_headed ≡ (s.is_headed || is_some_row rows) → ((all_lines (lines s.form) s.is_headed rows ≡ []) × (t.is_headed ≡ s.is_headed)) ⊎ ((t.is_headed ≡ true) × (is_some_row rows ≡ true))
    headed_so [] e = inl (refl, e ∙ or_false s.is_headed)
    headed_so (row ∷ rows) e = inr (e ∙ or_true s.is_headed, refl)

  -- rows were printed in part, and then no more
  pub prints_part_only : (s t u : RowPrinter W) (rows : List R) → PrintsPart contents lines s t rows → PrintsPart contents lines t u [] → PrintsPart contents lines s u rows
  prints_part_only s t u rows p q = record {
    written = p.written;
    unwritten = p.unwritten;
    part = p.part;
    appended = subst (Appends (contents s.writer.0) (contents u.writer.0)) (append-nil p.written)
        (Appends-trans _ _ _ _ _ p.appended (subst (Appends (contents t.writer.0) (contents u.writer.0)) (first_of_none q.written q.unwritten q.part) q.appended));
    form = q.form ∙ p.form;
    headed = headed_only p.headed q.headed;
  } where
    headed_only : ((p.written ≡ []) × (t.is_headed ≡ s.is_headed)) ⊎ ((t.is_headed ≡ true) × (is_some_row rows ≡ true)) → ((q.written ≡ []) × (u.is_headed ≡ t.is_headed)) ⊎ ((u.is_headed ≡ true) × (false ≡ true))
        → ((p.written ≡ []) × (u.is_headed ≡ s.is_headed)) ⊎ ((u.is_headed ≡ true) × (is_some_row rows ≡ true))
    headed_only (inl same) (inl still) = inl (same.0, still.1 ∙ same.1)
    headed_only (inr some) (inl still) = inr (still.1 ∙ some.0, some.1)
    headed_only was (inr none) = absurd (true≢false (sym none.1))
