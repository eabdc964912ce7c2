-- What comes of files, one after another.
use Rattle.std.proofs.Common.{◌≡◌, ◌∷◌, ◌++◌, ◌||◌, ◌<◌, ◌+◌, [], ℕ, max, Bool, true, false, List, Option, Bor, append_assoc, append-nil, drop, get_or, if◌then◌else◌, inl, inr, length, map, nat_eq, take, take-append-drop, Result, Ok, Err, IsErr, true≢false, refl, sym, ap, ◌∙◌, arith, subst}
use Rattle.std.specs.Io.KnownBytes.{Appends}
use Rattle.std.proofs.KnownBytes.{Appends-nil, Appends-trans}
use Rattle.std.proofs.lemmas.List.{drop_more, map-append, take_more}
use Rattle.audit_recording.specs.Session.Noted.{AreNotesOf, Noticed, frames_in, giving_up}
use Rattle.audit_recording.specs.Session.Opened.{lost_in}
use Rattle.audit_recording.specs.declared.judges.judging.Judging.{Judging}
use Rattle.audit_recording.specs.declared.session.notes.Notes.{Notes}
use Rattle.tftp_rows.specs.Faults.{IsRemarkFault, IsTellFault, Why}
use Rattle.tftp_rows.specs.Faults.Why.{Unopened, Stopped}
use Rattle.tftp_rows.specs.Files.{CameOf, AreFilesToldInPart, AreRowsOfFile, AreRowsOfFiles, CameOfAll, IsFileTold, IsSaidOf, IsSaidOfAll, Outcome, TellsFiles, any_has_none, has_fault, has_none, is_read_whole, status_of_outcome, worst_among}
use Rattle.tftp_rows.specs.Files.Outcome.{Faulty, Told}
use Rattle.tftp_rows.specs.Printing.{PrintsAll, verdict_lines}
use Rattle.tftp_rows.specs.Remarks.{SaysPart, remarks_text, rest_lines}
use Rattle.tftp_rows.specs.Telling.{AreRowsWith}
use Rattle.tftp_rows.specs.Whole.{IsRecordingTold, IsRecordingToldInPart, Telling, all_rows, counted, worst_of}
use Rattle.tftp_rows.specs.declared.printing.RowPrinter.{RowPrinter}
use Rattle.tftp_rows.specs.declared.reading.TellFault.{TellFault}
use Rattle.tftp_rows.specs.declared.remarks.Remarks.{Remarks}
use Rattle.tftp_rows.specs.declared.row.VerdictRow.{VerdictRow}
use Rattle.tftp_rows.specs.declared.teller.Teller.{Teller}
use Rattle.tftp_rows.proofs.FaultLemmas.{remark_later}
use Rattle.tftp_rows.proofs.PrintingLemmas.{prints_both, prints_nothing}
use Rattle.tftp_rows.proofs.RemarksLemmas.{says_nothing}

max_swap : (a : ℕ) → max a 0 ≡ max 0 a
max_swap a = omega arith

pub max_assoc : (a b c : ℕ) → max (max a b) c ≡ max a (max b c)
max_assoc a b c = omega arith

or_swap : (a : Bool) → (a || false) ≡ (false || a)
or_swap true = refl
or_swap false = refl

or_assoc : (a b c : Bool) → ((a || b) || c) ≡ (a || (b || c))
or_assoc true b c = refl
or_assoc false b c = refl

pub worst_more : (os : List Outcome) (o : Outcome) → worst_among (os ++ o ∷ []) ≡ max (worst_among os) (status_of_outcome o)
worst_more [] o = max_swap (status_of_outcome o)
worst_more (x ∷ os) o = ap (max (status_of_outcome x)) (worst_more os o) ∙ sym (max_assoc (status_of_outcome x) (worst_among os) (status_of_outcome o))

pub none_more : (os : List Outcome) (o : Outcome) → any_has_none (os ++ o ∷ []) ≡ (any_has_none os || has_none o)
none_more [] o = or_swap (has_none o)
none_more (x ∷ os) o = ap (λ b. has_none x || b) (none_more os o) ∙ sym (or_assoc (has_none x) (any_has_none os) (has_none o))

-- none is counted where there is none
pub none_counted : (tellings : List Telling) (whole : Bool) (rest : List (List ℕ)) → nat_eq (counted tellings) 0 ≡ has_none (Told tellings whole rest)
none_counted [] whole rest = refl
none_counted (t ∷ tellings) whole rest = grind arith

-- the name of one more
pub names_more : (names : List (Bor (List ℕ))) (i : ℕ) (d : Bor (List ℕ)) → i < length names → map (λ n. n.now) (take (i + 1) names) ≡ map (λ n. n.now) (take i names) ++ (get_or names i d).now ∷ []
names_more names i d h = ap (map (λ (n : Bor (List ℕ)). n.now)) (take_more names i d h) ∙ map-append (λ (n : Bor (List ℕ)). n.now) (take i names) (get_or names i d ∷ [])

-- the names before it, that name, and those behind it
pub names_split : (names : List (Bor (List ℕ))) (i : ℕ) (d : Bor (List ℕ)) → i < length names → map (λ n. n.now) names ≡ map (λ n. n.now) (take i names) ++ (get_or names i d).now ∷ map (λ n. n.now) (drop (i + 1) names)
names_split names i d h =
    let f = λ (n : Bor (List ℕ)). n.now in
    ap (map f) (sym (take-append-drop i names) ∙ ap (λ l. take i names ++ l) (drop_more names i d h)) ∙ map-append f (take i names) (get_or names i d ∷ drop (i + 1) names)

-- a file that was opened, and was told
module _ {W : Type 0} (contents : W → Option (List ℕ)) (old now : Teller W) (name : Bor (List ℕ)) (left file : Option (List ℕ)) (judging : Judging) (named : List ℕ) (opened : left ≡ file) (unheard opens : Bool) where
  pub whole_file : (a b : Option (List ℕ)) (program : List ℕ) (notes : Notes) (whole : Bool) (status : ℕ) → IsRecordingTold contents (record old { file = name; told = 0; dropped = 0 }) now left judging named notes
      → ((s : Noticed) → AreNotesOf notes s → whole ≡ is_read_whole notes s) → status ≡ max now.status (if whole then 0 else 2)
      → ((s : Noticed) → AreNotesOf notes s → Appends a b (remarks_text program name.now (rest_lines notes s now.told)))
      → (tellings : List Telling) × (whole : Bool) × (rest : List (List ℕ)) × CameOf contents unheard opens name.now file judging named old.printer now.printer (Told tellings whole rest)
      × (status ≡ max old.status (status_of_outcome (Told tellings whole rest))) × (now.told ≡ counted tellings) × Appends a b (remarks_text program name.now rest)
  whole_file a b program notes whole status told so is said =
      let s = giving_up (frames_in told.recording.waiting) told.noticed in
      subst (λ f. (tellings : List Telling) × (whole : Bool) × (rest : List (List ℕ)) × CameOf contents unheard opens name.now f judging named old.printer now.printer (Told tellings whole rest)
      × (status ≡ max old.status (status_of_outcome (Told tellings whole rest))) × (now.told ≡ counted tellings) × Appends a b (remarks_text program name.now rest)) opened (
        told.tellings,
        whole,
        rest_lines notes s (counted told.tellings),
        record {
          begun = record old { file = name; told = 0; dropped = 0 };
          now = now;
          notes = notes;
          begins = record { file = refl; printer = refl; dropped = refl };
          told = told;
          are = refl;
          is_whole = sym (so s told.noted);
          rest_is = refl;
          ends = refl;
        },
        is ∙ ap (λ s. max s (if whole then 0 else 2)) told.told.status ∙ max_assoc old.status (worst_of told.tellings) _,
        told.told.number,
        subst (λ n. Appends a b (remarks_text program name.now (rest_lines notes s n))) told.told.number (said s told.noted),
      )

  pub part_file : (a : Option (List ℕ)) (program : List ℕ) (fault : TellFault) → IsRecordingToldInPart contents (record old { file = name; told = 0; dropped = 0 }) now left judging named
      → IsTellFault left now.printer.writer.1 now.told fault
      → CameOf contents unheard opens name.now file judging named old.printer now.printer (Faulty (Stopped fault) []) × SaysPart a a (remarks_text program name.now [])
  part_file a program fault told why = (
    inl (
      record {
        begun = record old { file = name; told = 0; dropped = 0 };
        now = now;
        begins = record { file = refl; printer = refl; dropped = refl };
        told = subst (λ f. IsRecordingToldInPart contents (record old { file = name; told = 0; dropped = 0 }) now f judging named) opened told;
        ends = refl;
        why = subst (λ f. IsTellFault f now.printer.writer.1 now.told fault) opened why;
      },
      refl,
    ),
    says_nothing a [],
  )

  -- it was told, but what there is to tell of it as a whole was not
  pub rest_file : (a b : Option (List ℕ)) (program : List ℕ) (fault : TellFault) (notes : Notes) → IsRecordingTold contents (record old { file = name; told = 0; dropped = 0 }) now left judging named notes
      → ((s : Noticed) → AreNotesOf notes s → SaysPart a b (remarks_text program name.now (rest_lines notes s now.told)))
      → IsRemarkFault unheard fault
      → (rest : List (List ℕ)) × CameOf contents unheard opens name.now file judging named old.printer now.printer (Faulty (Stopped fault) rest) × SaysPart a b (remarks_text program name.now rest)
  rest_file a b program fault notes told said why =
      let s = giving_up (frames_in told.recording.waiting) told.noticed in (
        rest_lines notes s (counted told.tellings),
        inr (subst (λ f. (tellings : List Telling) × (whole : Bool) × IsFileTold contents name.now f judging named old.printer now.printer tellings whole (rest_lines notes s (counted told.tellings)) × IsRemarkFault unheard fault) opened (
          told.tellings,
          is_read_whole notes s,
          record {
            begun = record old { file = name; told = 0; dropped = 0 };
            now = now;
            notes = notes;
            begins = record { file = refl; printer = refl; dropped = refl };
            told = told;
            are = refl;
            is_whole = refl;
            rest_is = refl;
            ends = refl;
          },
          why,
        )),
        subst (λ n. SaysPart a b (remarks_text program name.now (rest_lines notes s n))) told.told.number (said s told.noted),
      )

-- a file that is not opened
pub unopened : {W : Type 0} (contents : W → Option (List ℕ)) (unheard opens : Bool) (printer : RowPrinter W) (name : List ℕ) (file : Option (List ℕ)) (judging : Judging) (named : List ℕ) (a : Option (List ℕ)) (program : List ℕ)
    → opens ≡ false → CameOf contents unheard opens name file judging named printer printer (Faulty Unopened []) × SaysPart a a (remarks_text program name [])
unopened contents unheard opens printer name file judging named a program not = ((not, refl, refl), says_nothing a [])

-- what does not open is not known to
pub opens_not : (opens : Bool) → (opens ≡ true → false ≡ true) → opens ≡ false
opens_not false so = refl
opens_not true so = sym (so refl)

module _ {W : Type 0} (contents : W → Option (List ℕ)) (unheard : Bool) (opens : List ℕ → Bool) (holds : List ℕ → Option (List ℕ)) (judging : Judging) (named : List ℕ) where
  -- one more file
  pub came_more : (names : List (List ℕ)) (name : List ℕ) (before between after : RowPrinter W) (os : List Outcome) (o : Outcome)
      → CameOfAll contents unheard opens holds judging named names before between os → CameOf contents unheard (opens name) name (holds name) judging named between after o
      → CameOfAll contents unheard opens holds judging named (names ++ name ∷ []) before after (os ++ o ∷ [])
  came_more [] name before between after [] o p q = (after, subst (λ b. CameOf contents unheard (opens name) name (holds name) judging named b after o) p q, refl)
  came_more [] name before between after (x ∷ os) o p q = absurd p
  came_more (n ∷ names) name before between after [] o p q = absurd p
  came_more (n ∷ names) name before between after (x ∷ os) o p q = (p.0, p.1, came_more names name p.0 between after os o p.2 q)

  -- what is said of one more file
  pub said_more : (AreWords : Why → List ℕ → Type 0) (program : List ℕ) (names : List (List ℕ)) (name : List ℕ) (before after : RowPrinter W) (os : List Outcome) (o : Outcome) (text more : List ℕ)
      → CameOfAll contents unheard opens holds judging named names before after os → IsSaidOfAll AreWords program names os text → IsSaidOf AreWords program name o more
      → IsSaidOfAll AreWords program (names ++ name ∷ []) (os ++ o ∷ []) (text ++ more)
  said_more AreWords program [] name before after [] o text more p said one = (more, [], ap (λ t. t ++ more) said ∙ sym (append-nil more), one, refl)
  said_more AreWords program [] name before after (x ∷ os) o text more p said one = absurd p
  said_more AreWords program (n ∷ names) name before after [] o text more p said one = absurd p
  said_more AreWords program (n ∷ names) name before after (x ∷ os) o text more p said one =
      (said.0, said.1 ++ more, ap (λ t. t ++ more) said.2 ∙ append_assoc said.0 said.1 more, said.3, said_more AreWords program names name p.0 after os o said.1 more p.2 said.4 one)

  -- the last file has a fault that can't be told
  pub files_err : {E A : Type 0} (errors : E → Option (List ℕ)) (AreWords : Why → List ℕ → Type 0) (names : List (Bor (List ℕ))) (i : ℕ) (d : Bor (List ℕ)) (before between after : RowPrinter W) (os : List Outcome) (old new : Remarks E) (r : Result ℕ A)
      → i < length names → IsErr r → new.errors.1 ≡ true → unheard ≡ new.errors.1 → CameOfAll contents unheard opens holds judging named (map (λ n. n.now) (take i names)) before between os
      → (why : Why) × (rest : List (List ℕ)) × CameOf contents unheard (opens (get_or names i d).now) (get_or names i d).now (holds (get_or names i d).now) judging named between after (Faulty why rest)
      → TellsFiles contents errors AreWords opens holds judging named (map (λ n. n.now) names) before after old new r
  files_err errors AreWords names i d before between after os old new (Ok x) h is failed same came last = absurd (true≢false (sym is))
  files_err errors AreWords names i d before between after os old new (Err e) h is failed same came last = subst (λ u. AreFilesToldInPart contents u opens holds judging named (map (λ n. n.now) names) before after) same (record {
    fails = same ∙ failed;
    first = map (λ n. n.now) (take i names);
    last = (get_or names i d).now;
    others = map (λ n. n.now) (drop (i + 1) names);
    all = names_split names i d h;
    between = between;
    outcomes = os;
    came = came;
    why = last.0;
    rest = last.1;
    came_last = last.2;
  })

  -- what stood there stays
  behind_one : (name : List ℕ) (before after : RowPrinter W) (o : Outcome) → CameOf contents unheard (opens name) name (holds name) judging named before after o → (written : List ℕ) × Appends (contents before.writer.0) (contents after.writer.0) written
  behind_one name before after o came = by o came where
    whole : (tellings : List Telling) (is : Bool) (rest : List (List ℕ)) → IsFileTold contents name (holds name) judging named before after tellings is rest → (written : List ℕ) × Appends (contents before.writer.0) (contents after.writer.0) written
    whole tellings is rest told =
        subst (λ b. (written : List ℕ) × Appends (contents b.writer.0) (contents after.writer.0) written) told.begins.printer
        (subst (λ a. (written : List ℕ) × Appends (contents told.begun.printer.writer.0) (contents a.writer.0) written) told.ends (_, told.told.told.prints.appended))

    by : (o : Outcome) → CameOf contents unheard (opens name) name (holds name) judging named before after o → (written : List ℕ) × Appends (contents before.writer.0) (contents after.writer.0) written
    by (Told tellings is rest) told = whole tellings is rest told
    by (Faulty Unopened rest) same = ([], subst (λ a. Appends (contents before.writer.0) (contents a.writer.0) []) (sym same.1) (Appends-nil (contents before.writer.0)))
    by (Faulty (Stopped fault) rest) (inl part) =
        subst (λ b. (written : List ℕ) × Appends (contents b.writer.0) (contents after.writer.0) written) part.0.begins.printer
        (subst (λ a. (written : List ℕ) × Appends (contents part.0.begun.printer.writer.0) (contents a.writer.0) written) part.0.ends (part.0.told.told.prints.written, part.0.told.told.prints.appended))
    by (Faulty (Stopped fault) rest) (inr told) = whole told.0 told.1 rest told.2

  pub behind_all : (names : List (List ℕ)) (before after : RowPrinter W) (os : List Outcome) → CameOfAll contents unheard opens holds judging named names before after os
      → (written : List ℕ) × Appends (contents before.writer.0) (contents after.writer.0) written
  behind_all [] before after [] p = ([], subst (λ a. Appends (contents before.writer.0) (contents a.writer.0) []) (sym p) (Appends-nil (contents before.writer.0)))
  behind_all [] before after (o ∷ os) p = absurd p
  behind_all (n ∷ names) before after [] p = absurd p
  behind_all (n ∷ names) before after (o ∷ os) p =
      let one = behind_one n before p.0 o p.1 in
      let more = behind_all names p.0 after os p.2 in
      (one.0 ++ more.0, Appends-trans _ _ _ _ _ one.1 more.1)

  -- the rows of one file
  rows_of_file : (name : List ℕ) (before after : RowPrinter W) (tellings : List Telling) (whole : Bool) (rest : List (List ℕ)) → (told : IsFileTold contents name (holds name) judging named before after tellings whole rest)
      → PrintsAll contents verdict_lines before after (told.told.told.first ++ told.told.told.last) × AreRowsOfFile tellings (told.told.told.first ++ told.told.told.last)
  rows_of_file name before after tellings whole rest told =
      let all = told.told.told in (
        subst (λ b. PrintsAll contents verdict_lines b after (all.first ++ all.last)) told.begins.printer
            (subst (λ a. PrintsAll contents verdict_lines told.begun.printer a (all.first ++ all.last)) told.ends all.prints),
        record {
          early = all.early;
          late = all.late;
          rows = ap all_rows (sym told.are) ∙ all.rows;
          lost = lost_in told.told.recording;
          first = all.first;
          last = all.last;
          are_first = subst (λ d. AreRowsWith d all.early all.first) told.begins.dropped all.are_first;
          are_last = all.are_last;
          all = refl;
        },
      )

  pub in_order : (names : List (List ℕ)) (before after : RowPrinter W) (os : List Outcome) → CameOfAll contents unheard opens holds judging named names before after os → has_fault os ≡ false
      → (rows : List VerdictRow) × PrintsAll contents verdict_lines before after rows × AreRowsOfFiles os rows
  in_order [] before after [] p none = ([], subst (λ a. PrintsAll contents verdict_lines before a []) (sym p) (prints_nothing contents verdict_lines before), refl)
  in_order [] before after (o ∷ os) p none = absurd p
  in_order (n ∷ names) before after [] p none = absurd p
  in_order (n ∷ names) before after (Faulty why rest ∷ os) p none = absurd (true≢false none)
  in_order (n ∷ names) before after (Told tellings whole rest ∷ os) p none =
      let one = rows_of_file n before p.0 tellings whole rest p.1 in
      let more = in_order names p.0 after os p.2 none in
      let rows = p.1.told.told.first ++ p.1.told.told.last in
      (rows ++ more.0, prints_both contents verdict_lines before p.0 after rows more.0 one.0 more.1, (rows, more.0, refl, one.1, more.2))

-- ---- a write on standard error that fails later

module _ {W : Type 0} (contents : W → Option (List ℕ)) (judging : Judging) (named : List ℕ) (u v : Bool) (later : u ≡ true → v ≡ true) where
  pub later_one : (opens : Bool) (name : List ℕ) (file : Option (List ℕ)) (before after : RowPrinter W) (o : Outcome) → CameOf contents u opens name file judging named before after o
      → CameOf contents v opens name file judging named before after o
  later_one opens name file before after (Told tellings whole rest) p = p
  later_one opens name file before after (Faulty Unopened rest) p = p
  later_one opens name file before after (Faulty (Stopped fault) rest) (inl part) = inl part
  later_one opens name file before after (Faulty (Stopped fault) rest) (inr told) = inr (told.0, told.1, told.2, remark_later u v fault later told.3)

  pub later_all : (opens : List ℕ → Bool) (holds : List ℕ → Option (List ℕ)) (names : List (List ℕ)) (before after : RowPrinter W) (os : List Outcome) → CameOfAll contents u opens holds judging named names before after os
      → CameOfAll contents v opens holds judging named names before after os
  later_all opens holds [] before after [] p = p
  later_all opens holds [] before after (o ∷ os) p = absurd p
  later_all opens holds (n ∷ names) before after [] p = absurd p
  later_all opens holds (n ∷ names) before after (o ∷ os) p = (p.0, later_one (opens n) n (holds n) before p.0 o p.1, later_all opens holds names p.0 after os p.2)
