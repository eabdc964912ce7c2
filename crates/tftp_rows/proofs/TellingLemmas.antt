-- What is told one after another.
use Rattle.std.proofs.Common.{◌<◌, length, take, drop, get_or, length-append, take-append-drop, ◌≡◌, ◌∷◌, ◌++◌, ◌||◌, not, [], ℕ, max, Bool, true, false, List, Option, Some, None, IfSome, IsSome, OnErr, OnOk, Result, Ok, Err, IsErr, inl, inr, refl, sym, ap, ◌∙◌, true≢false, append_assoc, append-nil, subst, arith, if◌then◌else◌}
use Rattle.std.specs.List.{AllByRecursion}
use Rattle.std.proofs.lemmas.List.{take_more}
use Rattle.audit_recording.specs.Rows.Told.{depends_on_place, row_of, rows_told}
use Rattle.audit_recording.specs.declared.rows.row.Point.TheVariants.{Between}
use Rattle.net_udp.specs.Recording.{Step}
use Rattle.audit_recording.specs.Blame.Frames.{Carried, whole_of}
use Rattle.audit_recording.specs.Judges.{IsWatching, Watched}
use Rattle.audit_recording.specs.Session.Trails.{IsTrailAfter}
use Rattle.audit_recording.specs.Session.Kept.{IsSessionOf}
use Rattle.audit_recording.specs.declared.session.session.Session.{Session}
use Rattle.audit_flows.specs.{Transfer}
use Rattle.audit_flows.specs.Lines.{same_address}
use Rattle.audit_views.specs.Parties.{host_name}
use Rattle.audit_recording.specs.Losses.Noted.{IsAsked, IsFirst, IsMissingOf, IsTold, Since}
use Rattle.audit_recording.specs.Reasons.Clock.{IsClockAfter, last_of}
use Rattle.audit_recording.specs.Session.Noted.{AreNotesOf, Noticed, stretch_of}
use Rattle.audit_recording.specs.Session.Recording.{reached_by}
use Rattle.audit_recording.proofs.SessionLemmas.Recording.{reached_is}
use Rattle.audit_recording.specs.declared.blame.trail.Trail.{Trail}
use Rattle.audit_recording.specs.declared.blame.missing.Missing.{Missing}
use Rattle.audit_recording.specs.declared.judges.judging.Judging.{Judging}
use Rattle.audit_recording.specs.declared.rows.row.Row.{Row}
use Rattle.audit_rows.specs.{IsJudgedOf}
use Rattle.audit_rows.specs.Judging.{said_there}
use Rattle.audit_rows.specs.Viewing.{said_in}
use Rattle.audit_rows.specs.declared.judged.Judged.{Judged}
use Rattle.audit_rows.specs.declared.viewed.Viewed.{Viewed}
use Rattle.tftp_rows.specs.Printing.{Prints, is_some_row, verdict_lines}
use Rattle.tftp_rows.specs.Telling.{AreJudgedAt, AreRowsAt, AreRowsWith, IsRowAt, IsRowWith, PrintsAllWith, PrintsPartWith, PrintsWith, Tells, TellsAll, TellsInTurn, TellsNext, TellsNextPart, TellsPart, TellsPartAt, TellsPlaces, TellsRowsAt, TellsTurns, TellsTurnsPart, worst_at}
use Rattle.tftp_rows.specs.declared.printing.RowPrinter.{RowPrinter}
use Rattle.tftp_rows.specs.declared.row.VerdictRow.{VerdictRow}
use Rattle.tftp_rows.specs.declared.teller.Teller.{Teller}
use Rattle.tftp_rows.proofs.PrintingLemmas.{prints_all_so, prints_both, prints_nothing, prints_part}

pub all_appended : {X : Type 0} (P : X → Type 0) (xs ys : List X) → AllByRecursion P xs → AllByRecursion P ys → AllByRecursion P (xs ++ ys)
all_appended P [] ys one other = other
all_appended P (x ∷ xs) ys one other = (one.0, all_appended P xs ys one.1 other)

pub all_first : {X : Type 0} (P : X → Type 0) (xs ys : List X) → AllByRecursion P (xs ++ ys) → AllByRecursion P xs
all_first P [] ys all = tt
all_first P (x ∷ xs) ys all = (all.0, all_first P xs ys all.1)

-- what is not there is none
pub no_frame : (o : Option ℕ) (waits : Bool) → (IsSome o → waits ≡ true) → waits ≡ false → o ≡ None
no_frame None waits so off = refl
no_frame (Some frame) waits so off = absurd (true≢false (sym (so refl) ∙ off))

pub with_one : (dropped : ℕ) (row last : VerdictRow) → IsRowWith dropped row last → AreRowsWith dropped (row ∷ []) (last ∷ [])
with_one dropped row last p = (last, [], refl, p, refl)

pub with_both : (dropped : ℕ) (xs ys ls ms : List VerdictRow) → AreRowsWith dropped xs ls → AreRowsWith dropped ys ms → AreRowsWith dropped (xs ++ ys) (ls ++ ms)
with_both dropped [] ys ls ms p q = subst (AreRowsWith dropped ys) (ap (λ l. l ++ ms) (sym p)) q
with_both dropped (x ∷ xs) ys ls ms p q = (p.0, p.1 ++ ms, ap (λ l. l ++ ms) p.2, p.3, with_both dropped xs ys p.1 ms p.4 q)

-- one more of the first
pub first_more : {X : Type 0} (xs all : List X) (x : X) → xs ≡ take (length xs) all → (length xs < length all) × (x ≡ get_or all (length xs) x) → xs ++ x ∷ [] ≡ take (length (xs ++ x ∷ [])) all
first_more xs all x e t = sym (ap (λ n. take n all) (length-append xs (x ∷ [])) ∙ take_more all (length xs) x t.0 ∙ ap (λ y. take (length xs) all ++ y ∷ []) (sym t.1) ∙ ap (λ l. l ++ x ∷ []) (sym e))

-- the first, one more, and the others
pub first_and_others : {X : Type 0} (xs all : List X) (x : X) → xs ≡ take (length xs) all → (length xs < length all) × (x ≡ get_or all (length xs) x) → (xs ++ x ∷ []) ++ drop (length (xs ++ x ∷ [])) all ≡ all
first_and_others xs all x e t = ap (λ l. l ++ drop (length (xs ++ x ∷ [])) all) (first_more xs all x e t) ∙ take-append-drop (length (xs ++ x ∷ [])) all

pub at_both : (name : List ℕ) (n : ℕ) (j : Judged) (ps qs : List Row) (xs ys : List VerdictRow) → AreRowsAt name n j ps xs → AreRowsAt name n j qs ys → AreRowsAt name n j (ps ++ qs) (xs ++ ys)
at_both name n j [] qs xs ys p q = subst (AreRowsAt name n j qs) (ap (λ l. l ++ ys) (sym p)) q
at_both name n j (o ∷ ps) qs xs ys p q = (p.0, p.1 ++ ys, ap (λ l. l ++ ys) p.2, p.3, at_both name n j ps qs p.1 ys p.4 q)

pub at_one : (name : List ℕ) (n : ℕ) (j : Judged) (o : Row) (row : VerdictRow) → IsRowAt name n j o row → AreRowsAt name n j (o ∷ []) (row ∷ [])
at_one name n j o row p = (row, [], refl, p, refl)

pub judged_first : (j : Judged) (ps qs : List Row) → AreJudgedAt j (ps ++ qs) → AreJudgedAt j ps
judged_first j [] qs p = tt
judged_first j (o ∷ ps) qs p = (p.0, judged_first j ps qs p.1)

pub judged_rest : (j : Judged) (ps qs : List Row) → AreJudgedAt j (ps ++ qs) → AreJudgedAt j qs
judged_rest j [] qs p = p
judged_rest j (o ∷ ps) qs p = judged_rest j ps qs p.1

max_assoc : (a b c : ℕ) → max (max a b) c ≡ max a (max b c)
max_assoc a b c = omega arith

max_zero : (a : ℕ) → max a 0 ≡ a
max_zero a = omega arith

pub worst_both : (j : Judged) (a : ℕ) (ps qs : List Row) → max (max a (worst_at j ps)) (worst_at j qs) ≡ max a (worst_at j (ps ++ qs))
worst_both j a [] qs = ap (λ b. max b (worst_at j qs)) (max_zero a)
worst_both j a (o ∷ ps) qs = max_assoc a _ (worst_at j qs) ∙ ap (max a) (worst_both j _ ps qs)

pub is_judged : (o : Row) (v : Option Viewed) → v ≡ None → IsSome v → ⊥
is_judged o v e p = true≢false (sym (rw e at p))

-- what changes the printer alone, twice
pub printer_alone : {W : Type 0} (s t u : Teller W) → t ≡ record s { printer = t.printer } → u ≡ record t { printer = u.printer } → u ≡ record s { printer = u.printer }
printer_alone {W} s t u p q = q ∙ ap {A = Teller W} {B = Teller W} (λ v. record v { printer = u.printer }) p

-- none is there
pub none_there : (rows : List VerdictRow) (waits : Bool) → ((rows ≡ [] → ⊥) → waits ≡ true) → waits ≡ false → rows ≡ []
none_there [] waits f p = refl
none_there (row ∷ rows) waits f p = absurd (true≢false (sym (f (λ e. true≢false (ap is_some_row e))) ∙ p))

module _ {W : Type 0} (contents : W → Option (List ℕ)) where
  pub all_none : (dropped : ℕ) (s : RowPrinter W) → PrintsAllWith contents dropped s s []
  all_none dropped s = record { printed = []; last = refl; prints = prints_nothing contents verdict_lines s }

  pub all_both : (dropped : ℕ) (s t u : RowPrinter W) (xs ys : List VerdictRow) → PrintsAllWith contents dropped s t xs → PrintsAllWith contents dropped t u ys → PrintsAllWith contents dropped s u (xs ++ ys)
  all_both dropped s t u xs ys p q = record {
    printed = p.printed ++ q.printed;
    last = with_both dropped xs ys p.printed q.printed p.last q.last;
    prints = prints_both contents verdict_lines s t u p.printed q.printed p.prints q.prints;
  }

  pub all_part : (dropped : ℕ) (s t u : RowPrinter W) (xs ys : List VerdictRow) → PrintsAllWith contents dropped s t xs → PrintsPartWith contents dropped t u ys → PrintsPartWith contents dropped s u (xs ++ ys)
  all_part dropped s t u xs ys p q = record {
    due = xs ++ q.due;
    others = q.others;
    are = ap (λ l. xs ++ l) q.are ∙ sym (append_assoc xs q.due q.others);
    printed = p.printed ++ q.printed;
    last = with_both dropped xs q.due p.printed q.printed p.last q.last;
    prints = prints_part contents verdict_lines s t u p.printed q.printed p.prints q.prints;
  }

  -- all of it is a part
  pub all_so : (dropped : ℕ) (s t : RowPrinter W) (rows : List VerdictRow) → PrintsAllWith contents dropped s t rows → PrintsPartWith contents dropped s t rows
  all_so dropped s t rows p = record { due = rows; others = []; are = sym (append-nil rows); printed = p.printed; last = p.last; prints = prints_all_so contents verdict_lines s t p.printed p.prints }

  -- the same where more rows were to come
  pub part_more : (dropped : ℕ) (s t : RowPrinter W) (xs ys : List VerdictRow) → PrintsPartWith contents dropped s t xs → PrintsPartWith contents dropped s t (xs ++ ys)
  part_more dropped s t xs ys p = record {
    due = p.due;
    others = p.others ++ ys;
    are = ap (λ l. l ++ ys) p.are ∙ append_assoc p.due p.others ys;
    printed = p.printed;
    last = p.last;
    prints = p.prints;
  }

  pub tells_none : (s : Teller W) → TellsAll contents s s []
  tells_none s = record {
    due = [];
    are = append-nil s.held.items;
    prints = all_none s.dropped s.printer;
    dropped = refl;
    file = refl;
    told = refl;
    may_lose = refl;
    none_waits = λ sure none. none;
    calm = λ lose. tt;
  }

  pub tells_both : (s t u : Teller W) (xs ys : List VerdictRow) → TellsAll contents s t xs → TellsAll contents t u ys → TellsAll contents s u (xs ++ ys)
  tells_both s t u xs ys p q = record {
    due = p.due ++ q.due;
    are =
        sym (append_assoc s.held.items xs ys) ∙ ap (λ l. l ++ ys) p.are ∙ append_assoc p.due t.held.items ys ∙ ap (λ l. p.due ++ l) q.are
        ∙ sym (append_assoc p.due q.due u.held.items);
    prints = all_both s.dropped s.printer t.printer u.printer p.due q.due p.prints (rw p.dropped at q.prints);
    dropped = q.dropped ∙ p.dropped;
    file = q.file ∙ p.file;
    told = q.told ∙ p.told;
    may_lose = q.may_lose ∙ p.may_lose;
    none_waits = λ sure none. q.none_waits (p.may_lose ∙ sure) (p.none_waits sure none);
    calm = λ lose. all_appended (λ (row : VerdictRow). row.frame ≡ None) p.due q.due (p.calm lose) (q.calm (p.may_lose ∙ lose));
  }

  pub tells_part : (s t u : Teller W) (xs ys : List VerdictRow) → TellsAll contents s t xs → TellsPart contents t u ys → TellsPart contents s u (xs ++ ys)
  tells_part s t u xs ys p q = record {
    due = p.due ++ q.due;
    left = q.left;
    are =
        sym (append_assoc s.held.items xs ys) ∙ ap (λ l. l ++ ys) p.are ∙ append_assoc p.due t.held.items ys ∙ ap (λ l. p.due ++ l) q.are
        ∙ sym (append_assoc p.due q.due (u.held.items ++ q.left));
    prints = elim q.prints [
      | inl all ↦ inl (all_both s.dropped s.printer t.printer u.printer p.due q.due p.prints (rw p.dropped at all))
      | inr part ↦ inr (all_part s.dropped s.printer t.printer u.printer p.due q.due p.prints (rw p.dropped at part.0), part.1)
    ];
    none_waits = λ sure none. q.none_waits (p.may_lose ∙ sure) (p.none_waits sure none);
    calm = λ lose. all_appended (λ (row : VerdictRow). row.frame ≡ None) p.due q.due (p.calm lose) (q.calm (p.may_lose ∙ lose));
  }

  pub places_both : (s t u : Teller W) (j : Judged) (ps qs : List Row) → TellsRowsAt contents s t j ps → TellsRowsAt contents t u j qs → TellsRowsAt contents s u j (ps ++ qs)
  places_both s t u j ps qs p q = record {
    rows = p.rows ++ q.rows;
    are = at_both s.file.now s.told j ps qs p.rows q.rows p.are (rw p.tells.told at (rw p.tells.file at q.are));
    tells = tells_both s t u p.rows q.rows p.tells q.tells;
  }

  pub places_part : (s t u : Teller W) (j : Judged) (ps qs : List Row) → TellsRowsAt contents s t j ps → TellsPartAt contents t u j qs → TellsPartAt contents s u j (ps ++ qs)
  places_part s t u j ps qs p q = record {
    first = ps ++ q.first;
    others = q.others;
    all = ap (λ l. ps ++ l) q.all ∙ sym (append_assoc ps q.first q.others);
    rows = p.rows ++ q.rows;
    are = at_both s.file.now s.told j ps q.first p.rows q.rows p.are (rw p.tells.told at (rw p.tells.file at q.are));
    tells = tells_part s t u p.rows q.rows p.tells q.tells;
  }

  pub places_more : (s t : Teller W) (j : Judged) (ps qs : List Row) → TellsPartAt contents s t j ps → TellsPartAt contents s t j (ps ++ qs)
  places_more s t j ps qs p = record {
    first = p.first;
    others = p.others ++ qs;
    all = ap (λ l. l ++ qs) p.all ∙ append_assoc p.first p.others qs;
    rows = p.rows;
    are = p.are;
    tells = p.tells;
  }

  -- nothing is told
  pub places_none : (s : Teller W) (j : Judged) (ps : List Row) → TellsPartAt contents s s j ps
  places_none s j ps = record {
    first = [];
    others = ps;
    all = refl;
    rows = [];
    are = refl;
    tells = record { due = []; left = []; are = refl; prints = inl (all_none s.dropped s.printer); none_waits = λ sure none. none; calm = λ lose. tt };
  }

  -- a row is held back
  pub tells_held : (s t : Teller W) (row : VerdictRow) → t.printer ≡ s.printer → t.dropped ≡ s.dropped → t.file ≡ s.file → t.told ≡ s.told → t.may_lose ≡ s.may_lose
      → t.held.items ≡ s.held.items ++ row ∷ [] → (s.may_lose ≡ false → s.held.items ≡ [] → ⊥) → TellsAll contents s t (row ∷ [])
  tells_held s t row printer dropped file told may_lose held never = record {
    due = [];
    are = sym held;
    prints = subst (λ p. PrintsAllWith contents s.dropped s.printer p []) (sym printer) (all_none s.dropped s.printer);
    dropped = dropped;
    file = file;
    told = told;
    may_lose = may_lose;
    none_waits = λ sure none. absurd (never sure none);
    calm = λ lose. tt;
  }

  -- a row that was to be held back is not kept
  pub tells_lost : (s t : Teller W) (row : VerdictRow) → t.printer ≡ s.printer → t.held.items ≡ s.held.items → TellsPart contents s t (row ∷ [])
  tells_lost s t row printer held = record {
    due = [];
    left = row ∷ [];
    are = ap (λ l. l ++ row ∷ []) (sym held);
    prints = inl (subst (λ p. PrintsAllWith contents s.dropped s.printer p []) (sym printer) (all_none s.dropped s.printer));
    none_waits = λ sure none. held ∙ none;
    calm = λ lose. tt;
  }

  module _ {A E : Type 0} where
    pub with_err : (dropped : ℕ) (s t : RowPrinter W) (r : Result A E) (rows : List VerdictRow) → IsErr r → PrintsPartWith contents dropped s t rows → PrintsWith contents dropped s t r rows
    with_err dropped s t (Ok x) rows is p = absurd (true≢false (sym is))
    with_err dropped s t (Err e) rows is p = p

    pub tells_err : (s t : Teller W) (r : Result A E) (rows : List VerdictRow) → IsErr r → TellsPart contents s t rows → Tells contents s t r rows
    tells_err s t (Ok x) rows is p = absurd (true≢false (sym is))
    tells_err s t (Err e) rows is p = p

    pub places_err : (s t : Teller W) (r : Result A E) (j : Judged) (ps : List Row) → IsErr r → TellsPartAt contents s t j ps → TellsPlaces contents s t r j ps
    places_err s t (Ok x) j ps is p = absurd (true≢false (sym is))
    places_err s t (Err e) j ps is p = p

    -- some places were told, and then others, or others in part
    pub places_then : (s t u : Teller W) (r : Result A E) (j : Judged) (ps qs : List Row) → TellsRowsAt contents s t j ps → TellsPlaces contents t u r j qs → TellsPlaces contents s u r j (ps ++ qs)
    places_then s t u (Ok x) j ps qs p q = places_both s t u j ps qs p q
    places_then s t u (Err e) j ps qs p q = places_part s t u j ps qs p q

    pub printed_with : (dropped : ℕ) (s t : RowPrinter W) (r : Result A E) (row last : VerdictRow) → IsRowWith dropped row last → Prints contents verdict_lines s t r (last ∷ []) → PrintsWith contents dropped s t r (row ∷ [])
    printed_with dropped s t (Ok x) row last is p = record { printed = last ∷ []; last = with_one dropped row last is; prints = p }
    printed_with dropped s t (Err e) row last is p = record { due = row ∷ []; others = []; are = refl; printed = last ∷ []; last = with_one dropped row last is; prints = p }

    -- a row is printed, since none waits
    pub tells_now : (s t : Teller W) (r : Result A E) (row : VerdictRow) → t ≡ record s { printer = t.printer } → s.held.items ≡ [] → (s.may_lose ≡ true → row.frame ≡ None)
        → PrintsWith contents s.dropped s.printer t.printer r (row ∷ []) → Tells contents s t r (row ∷ [])
    tells_now s t (Ok x) row is none calm p =
        let left : t.held.items ≡ [] = ap {A = Teller W} (λ v. v.held.items) is ∙ none in
        record {
          due = row ∷ [];
          are = ap (λ l. l ++ row ∷ []) none ∙ sym (ap (λ l. row ∷ l) left);
          prints = p;
          dropped = ap {A = Teller W} (λ v. v.dropped) is;
          file = ap {A = Teller W} (λ v. v.file) is;
          told = ap {A = Teller W} (λ v. v.told) is;
          may_lose = ap {A = Teller W} (λ v. v.may_lose) is;
          none_waits = λ sure before. left;
          calm = λ lose. (calm lose, tt);
        }
    tells_now s t (Err e) row is none calm p =
        let left : t.held.items ≡ [] = ap {A = Teller W} (λ v. v.held.items) is ∙ none in
        record {
          due = row ∷ [];
          left = [];
          are = ap (λ l. l ++ row ∷ []) none ∙ sym (ap (λ l. row ∷ (l ++ [])) left);
          prints = inr (p, left);
          none_waits = λ sure before. left;
          calm = λ lose. (calm lose, tt);
        }

    -- A row is told, where the status was raised before.
    pub row_told : (s m t : Teller W) (r : Result A E) (j : Judged) (place : Row) (row : VerdictRow) → m.printer ≡ s.printer → m.held ≡ s.held → m.dropped ≡ s.dropped → m.file ≡ s.file → m.told ≡ s.told → m.may_lose ≡ s.may_lose
        → IsRowAt s.file.now s.told j place row → Tells contents m t r (row ∷ []) → TellsPlaces contents s t r j (place ∷ [])
    row_told s m t (Ok x) j place row printer held dropped file told may_lose is p = record {
      rows = row ∷ [];
      are = at_one _ _ j place row is;
      tells = record {
        due = p.due;
        are = rw held at p.are;
        prints = rw dropped at (rw printer at p.prints);
        dropped = p.dropped ∙ dropped;
        file = p.file ∙ file;
        told = p.told ∙ told;
        may_lose = p.may_lose ∙ may_lose;
        none_waits = λ sure none. p.none_waits (may_lose ∙ sure) (rw held none);
        calm = λ lose. p.calm (may_lose ∙ lose);
      };
    }
    row_told s m t (Err e) j place row printer held dropped file told may_lose is p = record {
      first = place ∷ [];
      others = [];
      all = refl;
      rows = row ∷ [];
      are = at_one _ _ j place row is;
      tells = record {
        due = p.due;
        left = p.left;
        are = rw held at p.are;
        prints = rw dropped at (rw printer at p.prints);
        none_waits = λ sure none. p.none_waits (may_lose ∙ sure) (rw held none);
        calm = λ lose. p.calm (may_lose ∙ lose);
      };
    }

last_told : (depends : Bool) (b : Option Viewed) (j : Judged) → IfSome b (λ v. IsSome j.between) → AreJudgedAt j (if not depends then [] else row_of Between (said_there b))
last_told false b j p = tt
last_told true None j p = tt
last_told true (Some z) j p = (p, tt)

pub options_told : (c s b : Option Viewed) (alike : Bool) (j : Judged) → j.client ≡ c → j.server ≡ s → j.between ≡ b → AreJudgedAt j (rows_told (said_there c) (said_there s) (said_there b) alike)
options_told None None None alike j p q r = tt
options_told None None (Some z) alike j p q r = (rw r refl, tt)
options_told None (Some y) None alike j p q r = (rw q refl, tt)
options_told None (Some y) (Some z) alike j p q r = (rw q refl, (rw r refl, tt))
options_told (Some x) None None alike j p q r = (rw p refl, tt)
options_told (Some x) None (Some z) alike j p q r = (rw p refl, (rw r refl, tt))
options_told (Some x) (Some y) None true j p q r = (rw p refl, last_told (depends_on_place (Some (said_in x)) None || depends_on_place (Some (said_in y)) None) None j tt)
options_told (Some x) (Some y) None false j p q r = (rw p refl, (rw q refl, last_told (depends_on_place (Some (said_in x)) None || depends_on_place (Some (said_in y)) None) None j tt))
options_told (Some x) (Some y) (Some z) true j p q r = (rw p refl, last_told (depends_on_place (Some (said_in x)) (Some (said_in z)) || depends_on_place (Some (said_in y)) (Some (said_in z))) (Some z) j (rw r refl))
options_told (Some x) (Some y) (Some z) false j p q r = (rw p refl, (rw q refl, last_told (depends_on_place (Some (said_in x)) (Some (said_in z)) || depends_on_place (Some (said_in y)) (Some (said_in z))) (Some z) j (rw r refl)))

-- the transfer was judged at each place where a verdict is told
pub places_judged : (j : Judged) (alike : Bool) → AreJudgedAt j (rows_told (said_there j.client) (said_there j.server) (said_there j.between) alike)
places_judged j alike = options_told j.client j.server j.between alike j refl refl refl

pub none_told : {W : Type 0} (contents : W → Option (List ℕ)) (s : Teller W) (j : Judged) → TellsRowsAt contents s s j []
none_told contents s j = record { rows = []; are = refl; tells = tells_none contents s }

-- the statuses of three places
pub statuses_then : {A E : Type 0} (r : Result A E) (j : Judged) (a b c d : ℕ) (ps qs os : List Row) → b ≡ max a (worst_at j ps) → c ≡ max b (worst_at j qs) → OnOk r (d ≡ max c (worst_at j os)) → OnOk r (d ≡ max a (worst_at j (ps ++ (qs ++ os))))
statuses_then (Err e) j a b c d ps qs os p q s = tt
statuses_then (Ok x) j a b c d ps qs os p q s = s ∙ ap (λ n. max n (worst_at j os)) q ∙ worst_both j b qs os ∙ ap (λ n. max n (worst_at j (qs ++ os))) p ∙ worst_both j a ps (qs ++ os)

-- a transfer's rows have the number that it was told with
pub numbered : {W : Type 0} (contents : W → Option (List ℕ)) (s t : Teller W) (n : ℕ) (j : Judged) (ps : List Row) → TellsRowsAt contents (record s { told = n }) t j ps → TellsRowsAt contents (record s { told = t.told }) t j ps
numbered contents s t n j ps p = subst (λ k. TellsRowsAt contents (record s { told = k }) t j ps) (sym p.tells.told) p

pub told_with : {W : Type 0} (contents : W → Option (List ℕ)) (s t : Teller W) (n : ℕ) (j : Judged) (ps : List Row) → TellsRowsAt contents (record s { told = n }) t j ps → t.told ≡ n
told_with contents s t n j ps p = p.tells.told

-- what there is to say of a transfer is by where the session judges
pub judged_as : (j : Judged) (t : Trail) (w : Watched) (told judging : Judging) (x : Transfer) (named : List ℕ) (carried : List Carried) → told ≡ judging
    → (IsTrailAfter t told x named carried → IsWatching w told x host_name (whole_of named carried) → IsJudgedOf j told x named carried)
    → IsTrailAfter t judging x named carried → IsWatching w judging x host_name (whole_of named carried) → IsJudgedOf j judging x named carried
judged_as j t w told judging x named carried same makes =
    subst (λ k. IsTrailAfter t k x named carried → IsWatching w k x host_name (whole_of named carried) → IsJudgedOf j k x named carried) same makes

-- what is missing of a transfer is so of what there is to say of it
pub missing_there : (j : Judged) (t : Trail) (m : Missing) (s : Noticed) → j.trail ≡ t → j.doubted.missing ≡ m → IsFirst (IsMissingOf t.transfer.client.address s.events) m.first
    → IsFirst (IsMissingOf j.trail.transfer.client.address s.events) j.doubted.missing.first
missing_there j t m s e f p =
    subst (λ (u : Trail). IsFirst (IsMissingOf u.transfer.client.address s.events) j.doubted.missing.first) (sym e)
    (subst (λ (v : Missing). IsFirst (IsMissingOf t.transfer.client.address s.events) v.first) (sym f) p)

pub within_there : (j : Judged) (t : Trail) (m : Missing) (s : Noticed) → j.trail ≡ t → j.doubted.missing ≡ m
    → (IsAsked (λ host. same_address host t.transfer.client.address) t.first s.events → IsTold (Since (IsMissingOf t.transfer.client.address s.events) (stretch_of t)) (stretch_of t) m.within)
    → IsAsked (λ host. same_address host j.trail.transfer.client.address) j.trail.first s.events
    → IsTold (Since (IsMissingOf j.trail.transfer.client.address s.events) (stretch_of j.trail)) (stretch_of j.trail) j.doubted.missing.within
within_there j t m s e f p =
    subst (λ (u : Trail). IsAsked (λ host. same_address host u.transfer.client.address) u.first s.events
    → IsTold (Since (IsMissingOf u.transfer.client.address s.events) (stretch_of u)) (stretch_of u) j.doubted.missing.within) (sym e)
    (subst (λ (v : Missing). IsAsked (λ host. same_address host t.transfer.client.address) t.first s.events
    → IsTold (Since (IsMissingOf t.transfer.client.address s.events) (stretch_of t)) (stretch_of t) v.within) (sym f) p)

-- the moment up to which it was read
pub until_there : (j : Judged) (b : Session) (now : ℕ) (s : Noticed) → AreNotesOf b.notes s → j.until ≡ now
    → ((times : List ℕ) → IsClockAfter b.notes.clock times → now ≡ max (last_of times) b.notes.clock.reached) → j.until ≡ max (last_of s.times) (reached_by s.times)
until_there j b now s notes is reads = is ∙ (reads s.times notes.clock ∙ ap (λ n. max (last_of s.times) n) (reached_is b.notes.clock s.times notes.clock))

pub on_err : {A E P : Type 0} (r : Result A E) → P → OnErr r P
on_err (Ok x) p = tt
on_err (Err e) p = p

-- nothing was told
pub no_turn : {W : Type 0} (contents : W → Option (List ℕ)) (Holds : Session → Type 0) (t : Teller W) (b : Session) (named out : List ℕ) (history : List Step) (carried : List Carried) (s : Noticed) → IsSessionOf b named out history carried s → TellsTurns contents Holds t t b named out history carried s
no_turn contents Holds t b named out history carried s is = record { told = []; left = out; turns = (refl, refl); handed_out = is }

turn_more : {W : Type 0} (contents : W → Option (List ℕ)) (Holds : Session → Type 0) (named : List ℕ) (history : List Step) (carried : List Carried) (s : Noticed) (js : List Judged) (t u v : Teller W) (d e : Session) (out left : List ℕ)
    → TellsInTurn contents Holds named history carried s js t u out left → IsSessionOf d named left history carried s → Holds d → (step : TellsNext contents u v d e named left history carried s)
    → TellsInTurn contents Holds named history carried s (js ++ step.judged ∷ []) t v out (step.transfer.number ∷ left)
turn_more {W} contents Holds named history carried s [] t u v d e out left p is holds step =
    subst (λ (k : List ℕ). TellsInTurn contents Holds named history carried s (step.judged ∷ []) t v k (step.transfer.number ∷ left)) p.1
    (subst (λ (k : Teller W). TellsInTurn contents Holds named history carried s (step.judged ∷ []) k v left (step.transfer.number ∷ left)) p.0
    (v, d, e, is, holds, step, refl, (refl, refl)))
turn_more contents Holds named history carried s (j ∷ js) t u v d e out left p is holds step =
    (p.0, p.1, p.2, p.3, p.4, p.5, p.6, turn_more contents Holds named history carried s js p.0 u v d e (p.5.transfer.number ∷ out) left p.7 is holds step)

-- one transfer more was told
pub turns_more : {W : Type 0} (contents : W → Option (List ℕ)) (Holds : Session → Type 0) (t u v : Teller W) (d e : Session) (named out : List ℕ) (history : List Step) (carried : List Carried) (s : Noticed)
    → (p : TellsTurns contents Holds t u d named out history carried s) → Holds d → TellsNext contents u v d e named p.left history carried s → TellsTurns contents Holds t v e named out history carried s
turns_more contents Holds t u v d e named out history carried s p holds step = record {
  told = p.told ++ step.judged ∷ [];
  left = step.transfer.number ∷ p.left;
  turns = turn_more contents Holds named history carried s p.told t u v d e out p.left p.turns p.handed_out holds step;
  handed_out = step.handed_out;
}

-- and then no more was told
abbrev pub turns_kept : {W : Type 0} (contents : W → Option (List ℕ)) (Holds : Session → Type 0) (t u v : Teller W) (d e : Session) (named out : List ℕ) (history : List Step) (carried : List Carried) (s : Noticed)
    → (p : TellsTurns contents Holds t u d named out history carried s) → v ≡ u → IsSessionOf e named p.left history carried s → TellsTurns contents Holds t v e named out history carried s
turns_kept {W} contents Holds t u v d e named out history carried s p kept is = record {
  told = p.told;
  left = p.left;
  turns = subst (λ (k : Teller W). TellsInTurn contents Holds named history carried s p.told t k out p.left) (sym kept) p.turns;
  handed_out = is;
}

-- a transfer's rows have the number that it was told with, also where it is told in part
pub numbered_part : {W : Type 0} (contents : W → Option (List ℕ)) (s t : Teller W) (n m : ℕ) (j : Judged) (ps : List Row) → n ≡ m → TellsPartAt contents (record s { told = n }) t j ps → TellsPartAt contents (record s { told = m }) t j ps
numbered_part contents s t n m j ps same p = subst (λ k. TellsPartAt contents (record s { told = k }) t j ps) same p

-- some transfers were told, and the next one in part, or no more
pub turns_part : {W : Type 0} (contents : W → Option (List ℕ)) (Holds : Session → Type 0) (t u v : Teller W) (d : Session) (judging : Judging) (named out : List ℕ) (history : List Step) (carried : List Carried) (s : Noticed)
    → (p : TellsTurns contents Holds t u d named out history carried s) → d.audit.judge.judging ≡ judging → TellsNextPart contents u v d.audit.judge.judging named p.left carried
    → TellsTurnsPart contents Holds t v judging named out history carried s
turns_part contents Holds t u v d judging named out history carried s p same part = record {
  mid = u;
  between = d;
  turns = p;
  part = inr (subst (λ (k : Judging). TellsNextPart contents u v k named p.left carried) same part);
}

pub turns_end : {W : Type 0} (contents : W → Option (List ℕ)) (Holds : Session → Type 0) (t u : Teller W) (d : Session) (judging : Judging) (named out : List ℕ) (history : List Step) (carried : List Carried) (s : Noticed)
    → TellsTurns contents Holds t u d named out history carried s → TellsTurnsPart contents Holds t u judging named out history carried s
turns_end contents Holds t u d judging named out history carried s p = record { mid = u; between = d; turns = p; part = inl refl }
