-- What a text begins with.
use Rattle.std.proofs.Common.{◌≡◌, ◌≢◌, ℕ, ◌+◌, ◌^◌, ◌≤◌, ◌==◌, ◌⊎◌, inl, inr, Bool, true, false, cond, true≢false, List, [], ◌∷◌, ◌++◌, length, All, refl, sym, ap, ◌∙◌, subst, arith, append_assoc, append-nil, length-append}
use Rattle.std.specs.List.{join_with_byte, onto_first}
use Rattle.std.proofs.lemmas.List.Elements.{All-cons, All-head, All-nil, All-tail}
use Rattle.std.proofs.lemmas.List.Splits.{join_with_byte-slice_split}
use Rattle.tftp_capture.specs.{TextFault, Begins, BeginsWith, Due, HasFault, IsCapture, IsOver, Numbered, Says, Stands, Unfinished, longest_line, total_line, whole_lines, Version, HasNoEnd}
use Rattle.tftp_capture.specs.CaptureText.{Header}
use Rattle.tftp_capture.specs.CaptureText.Due.{Head, Body, Nothing}
use Rattle.tftp_capture.proofs.Canonical.{IsWholeLine, stands-whole_lines}
use Rattle.tftp_capture.proofs.Readings.{FaultIs, fault_is}
use Rattle.tftp_capture.proofs.Readings.FaultIs.{cut, wrong}
use Rattle.tftp_capture.proofs.Skips.{whole_lines-push}
use Rattle.tftp_capture.proofs.Texts.{at_ends, at_ends-after, some_line}
use Rattle.tftp_capture.proofs.Uniqueness.{no_longer, snoc_cases}
use Rattle.tftp_capture.proofs.Walks.{Walk, head_or, says_walk, tail_of, walk_same, walk_split}

-- whole lines begin any text that goes on after them
pub begins_more : {version : Version} (text more : List ℕ) (lines : List (List ℕ)) (header : Header) (datagrams : List Numbered) → Stands text lines [] (Body version header) datagrams → Begins (text ++ more) header datagrams
begins_more {version} text more lines header datagrams p = record { read = text; more = more; lines = lines; are = refl; stands = (version, p) }

-- ---- lines after those of the header

-- a datagram, the total or nothing is due, under this header
abbrev pub IsUnder : Version → Header → Due → Type 0
IsUnder version header due = (due ≡ Body version header) ⊎ (due ≡ Nothing version header)

nothing_walk : (version : Version) (header : Header) (n : ℕ) (ds : List Numbered) (lines : List (List ℕ)) (due : Due) (after : List Numbered) → Walk (Nothing version header) n ds lines due after → (due ≡ Nothing version header) × (after ≡ ds)
nothing_walk version header n ds [] due after p = p
nothing_walk version header n ds (l ∷ ls) due after p = absurd p.2

-- lines only add datagrams
walk_adds : (version : Version) (header : Header) (n : ℕ) (ds : List Numbered) (lines : List (List ℕ)) (due : Due) (after : List Numbered) → Walk (Body version header) n ds lines due after → IsUnder version header due × BeginsWith after ds
walk_adds version header n ds [] due after p = (inl p.0, ([], p.1 ∙ sym (append-nil ds)))
walk_adds version header n ds (l ∷ ls) due after p =
    let on : (mid : Due) (ds' : List Numbered) → p.0 ≡ mid → p.1 ≡ ds' → Walk mid (n + 1) ds' ls due after =
    λ mid ds' e f. subst (λ x. Walk x (n + 1) ds' ls due after) e (subst (λ x. Walk p.0 (n + 1) x ls due after) f p.3) in
    elim p.2 as (λ _. IsUnder version header due × BeginsWith after ds) [
      | inl s ↦ walk_adds version header (n + 1) ds ls due after (on (Body version header) ds s.1 s.2)
      | inr (inl s) ↦
          let rest = walk_adds version header (n + 1) (ds ++ (n, s.0) ∷ []) ls due after (on (Body version header) (ds ++ (n, s.0) ∷ []) s.3 s.4) in
          (rest.0, ((n, s.0) ∷ rest.1.0, rest.1.1 ∙ append_assoc ds ((n, s.0) ∷ []) rest.1.0))
      | inr (inr s) ↦
          let rest = nothing_walk version header (n + 1) ds ls due after (on (Nothing version header) ds s.1 s.2) in
          (inr rest.0, ([], rest.1 ∙ sym (append-nil ds)))
    ]

says_more : (version : Version) (lines more : List (List ℕ)) (header : Header) (due : Due) (ds es : List Numbered) → Says lines (Body version header) es → Says (lines ++ more) due ds → IsUnder version header due × BeginsWith ds es
says_more version lines more header due ds es p q =
    let parts = walk_split Head 1 [] lines more due ds (says_walk (lines ++ more) due ds q) in
    let same = walk_same Head 1 [] lines parts.0 (Body version header) parts.2 es parts.3 (says_walk lines (Body version header) es p) in
    walk_adds version header parts.1 es more due ds (subst (λ x. Walk (Body version header) parts.1 x more due ds) same.1 (subst (λ x. Walk x parts.1 parts.2 more due ds) same.0 parts.4))

more_lines : (read more : List ℕ) (lines lines' : List (List ℕ)) (rest : List ℕ) (due due' : Due) (ds es : List Numbered) → Stands read lines [] due' es → Stands (read ++ more) lines' rest due ds
    → (others : List (List ℕ)) × (lines' ≡ lines ++ others)
more_lines read more lines lines' rest due due' ds es p q =
    let other = some_line more in
    let whole = sym q.divided ∙ at_ends-after read more lines [] other.0 other.1 p.divided other.2 in
    elim (snoc_cases lines' lines other.1 rest other.0 whole) as (λ _. (others : List (List ℕ)) × (lines' ≡ lines ++ others)) [
      | inl e ↦ ([], e.0 ∙ sym (append-nil lines))
      | inr e ↦ (other.0 ∷ e.0, e.1)
    ]

-- of a text in which no byte is wrong, what comes after whole lines only adds datagrams
pub stands_more : (version : Version) (read more : List ℕ) (lines lines' : List (List ℕ)) (rest : List ℕ) (header : Header) (due : Due) (ds es : List Numbered) → Stands read lines [] (Body version header) es → Stands (read ++ more) lines' rest due ds
    → IsUnder version header due × BeginsWith ds es
stands_more version read more lines lines' rest header due ds es p q =
    let others = more_lines read more lines lines' rest due (Body version header) ds es p q in
    says_more version lines others.0 header due ds es p.says (subst (λ l. Says l due ds) others.1 q.says)

-- ---- two beginnings of one list

longer_of : (xs ys ms ns : List ℕ) → xs ++ ms ≡ ys ++ ns → ((more : List ℕ) × (ys ≡ xs ++ more)) ⊎ ((more : List ℕ) × (xs ≡ ys ++ more))
longer_of [] ys ms ns e = inl (ys, refl)
longer_of (a ∷ vs) [] ms ns e = inr (a ∷ vs, refl)
longer_of (a ∷ vs) (b ∷ bs) ms ns e =
    let first : a ≡ b = ap (head_or a) e in
    elim (longer_of vs bs ms ns (ap tail_of e)) as (λ _. ((more : List ℕ) × ((b ∷ bs) ≡ (a ∷ vs) ++ more)) ⊎ ((more : List ℕ) × ((a ∷ vs) ≡ (b ∷ bs) ++ more))) [
      | inl p ↦ inl (p.0, ap (λ v. v ∷ bs) (sym first) ∙ ap (λ v. a ∷ v) p.1)
      | inr p ↦ inr (p.0, ap (λ v. v ∷ vs) first ∙ ap (λ v. b ∷ v) p.1)
    ]

-- the same, where a byte stands after one of them
pub before_or_past : (xs ys : List ℕ) (x : ℕ) (ms ns : List ℕ) → xs ++ x ∷ ms ≡ ys ++ ns → ((more : List ℕ) × (xs ≡ ys ++ more)) ⊎ ((more : List ℕ) × (ys ≡ xs ++ x ∷ more))
before_or_past [] [] x ms ns e = inl ([], refl)
before_or_past [] (b ∷ bs) x ms ns e = inr (bs, ap (λ v. v ∷ bs) (sym (ap (head_or x) e)))
before_or_past (a ∷ vs) [] x ms ns e = inl (a ∷ vs, refl)
before_or_past (a ∷ vs) (b ∷ bs) x ms ns e =
    let first : a ≡ b = ap (head_or a) e in
    elim (before_or_past vs bs x ms ns (ap tail_of e)) as (λ _. ((more : List ℕ) × ((a ∷ vs) ≡ (b ∷ bs) ++ more)) ⊎ ((more : List ℕ) × ((b ∷ bs) ≡ (a ∷ vs) ++ x ∷ more))) [
      | inl p ↦ inl (p.0, ap (λ v. v ∷ vs) first ∙ ap (λ v. b ∷ v) p.1)
      | inr p ↦ inr (p.0, ap (λ v. v ∷ bs) (sym first) ∙ ap (λ v. a ∷ v) p.1)
    ]

-- ---- the laws

under_body : (v w : Version) (one other : Header) → IsUnder v one (Body w other) → one ≡ other
under_body v w one other (inl e) = let same : Body w other ≡ Body v one = e in cc
under_body v w one other (inr e) = absurd (subst IsOver (sym e) tt)

under_nothing : (v w : Version) (one other : Header) → IsUnder v one (Nothing w other) → one ≡ other
under_nothing v w one other (inl e) = absurd (subst IsOver e tt)
under_nothing v w one other (inr e) = let same : Nothing w other ≡ Nothing v one = e in cc

pub agree : (text : List ℕ) (one other : Header) (ds es : List Numbered) → Begins text one ds → Begins text other es → (one ≡ other) × (BeginsWith ds es ⊎ BeginsWith es ds)
agree text one other ds es p q =
    let (v, p_stands) = p.stands in
    let (w, q_stands) = q.stands in
    elim (longer_of p.read q.read p.more q.more (sym p.are ∙ q.are)) as (λ _. (one ≡ other) × (BeginsWith ds es ⊎ BeginsWith es ds)) [
      | inl h ↦
          let more = stands_more v p.read h.0 p.lines q.lines [] one (Body w other) es ds p_stands (subst (λ t. Stands t q.lines [] (Body w other) es) h.1 q_stands) in
          (under_body v w one other more.0, inr more.1)
      | inr h ↦
          let more = stands_more w q.read h.0 q.lines p.lines [] other (Body v one) ds es q_stands (subst (λ t. Stands t p.lines [] (Body v one) ds) h.1 p_stands) in
          (sym (under_body w v other one more.0), inl more.1)
    ]

-- a text in which no byte is wrong
pub stands_begins : (text : List ℕ) (lines : List (List ℕ)) (rest : List ℕ) (header : Header) (due : Due) (ds es : List Numbered) → Stands text lines rest due ds → Begins text header es
    → (version : Version) × IsUnder version header due × BeginsWith ds es
stands_begins text lines rest header due ds es p q =
    let more = stands_more q.stands.0 q.read q.more q.lines lines rest header due ds es q.stands.1 (subst (λ t. Stands t lines rest due ds) q.are p) in
    (q.stands.0, more.0, more.1)

pub capture_has : (text : List ℕ) (header other : Header) (ds es : List Numbered) → IsCapture text header ds → Begins text other es → (other ≡ header) × BeginsWith ds es
capture_has text header other ds es p q =
    let more = stands_begins text p.1 [] other (Nothing p.0 header) ds es p.2 q in
    (under_nothing more.0 p.0 other header more.1, more.2)

pub unfinished_has : (text : List ℕ) (header : Header) (ds es : List Numbered) (line : ℕ) (due : Due) → Unfinished text ds line due → Begins text header es → BeginsWith ds es
unfinished_has text header ds es line due p q = (stands_begins text p.lines p.rest header due ds es p.stands q).2

fault_is_after : (text : List ℕ) (header : Header) (ds es : List Numbered) (line : ℕ) (fault : TextFault) → FaultIs text ds line fault → Begins text header es → BeginsWith ds es
fault_is_after text header ds es line _ (cut due p n) q = unfinished_has text header ds es line due p q
fault_is_after text header ds es line fault (wrong read more byte e p) q =
    let (w, q_stands) = q.stands in
    elim (before_or_past read q.read byte more q.more (sym e ∙ q.are)) as (λ _. BeginsWith ds es) [
      | inl h ↦ (stands_more w q.read h.0 q.lines p.lines p.rest header p.due ds es q_stands (subst (λ t. Stands t p.lines p.rest p.due ds) h.1 p.stands)).1
      | inr h ↦ absurd (no_longer read h.0 byte p.lines q.lines p.rest [] p.due (Body w header) ds es p.stands (subst (λ t. Stands t q.lines [] (Body w header) es) h.1 q_stands) fault p.wrong)
    ]

pub fault_after : (text : List ℕ) (header : Header) (ds es : List Numbered) (line : ℕ) (fault : TextFault) → HasFault text ds line fault → Begins text header es → BeginsWith ds es
fault_after text header ds es line fault p q = fault_is_after text header ds es line fault (fault_is text ds line fault p) q

-- ---- a capture begins with all its datagrams

ends_no_end : (text : List ℕ) → All HasNoEnd (at_ends text)
ends_no_end [] = All-cons HasNoEnd [] [] (All-nil (λ b. b ≢ 10)) (All-nil HasNoEnd)
ends_no_end (x ∷ xs) =
    let rest = some_line xs in
    let more : All HasNoEnd (rest.0 ∷ rest.1) = subst (λ l. All HasNoEnd l) rest.2 (ends_no_end xs) in
    let go : (b : Bool) → b ≡ (x == 10) → All HasNoEnd (cond b ([] ∷ at_ends xs) (onto_first x (at_ends xs))) =
    λ b is. elim b as (λ v. v ≡ (x == 10) → All HasNoEnd (cond v ([] ∷ at_ends xs) (onto_first x (at_ends xs)))) [
      | true ↦ λ t. All-cons HasNoEnd [] (at_ends xs) (All-nil (λ b. b ≢ 10)) (ends_no_end xs)
      | false ↦ λ t.
          let other : x ≢ 10 = λ e. true≢false (sym (ap (λ v. v == 10) e) ∙ sym t) in
          subst (λ l. All HasNoEnd (onto_first x l)) (sym rest.2)
          (All-cons HasNoEnd (x ∷ rest.0) rest.1 (All-cons (λ b. b ≢ 10) x rest.0 other (All-head HasNoEnd rest.0 rest.1 more)) (All-tail HasNoEnd rest.0 rest.1 more))
    ] is in
    go (x == 10) refl

all_front : {A : Type 0} (P : A → Type 0) (xs ys : List A) → All P (xs ++ ys) → All P xs
all_front P [] ys h = All-nil P
all_front P (x ∷ xs) ys h = All-cons P x xs (All-head P x (xs ++ ys) h) (all_front P xs ys (All-tail P x (xs ++ ys) h))

whole_each : (size : ℕ) (lines : List (List ℕ)) → All HasNoEnd lines → All (λ (l : List ℕ). length l ≤ size) lines → All (IsWholeLine size) lines
whole_each size [] p q = All-nil (IsWholeLine size)
whole_each size (l ∷ ls) p q =
    All-cons (IsWholeLine size) l ls (record { no_end = All-head HasNoEnd l ls p; narrow = All-head (λ (x : List ℕ). length x ≤ size) l ls q })
    (whole_each size ls (All-tail HasNoEnd l ls p) (All-tail (λ (x : List ℕ). length x ≤ size) l ls q))

joined : (lines : List (List ℕ)) (rest : List ℕ) → join_with_byte 10 (lines ++ rest ∷ []) ≡ whole_lines lines ++ rest
joined [] rest = refl
joined (l ∷ []) rest = sym (append_assoc l (10 ∷ []) rest) ∙ ap (λ s. s ++ rest) (sym (append-nil (l ++ 10 ∷ [])))
joined (l ∷ k ∷ ls) rest = ap (λ s. l ++ 10 ∷ s) (joined (k ∷ ls) rest) ∙ sym (append_assoc l (10 ∷ []) (whole_lines (k ∷ ls) ++ rest)) ∙ sym (append_assoc (l ++ 10 ∷ []) (whole_lines (k ∷ ls)) rest)

-- a text is its whole lines, and the rest of a line
text_is : (text : List ℕ) (lines : List (List ℕ)) (rest : List ℕ) (due : Due) (ds : List Numbered) → Stands text lines rest due ds → text ≡ whole_lines lines ++ rest
text_is text lines rest due ds p = sym (join_with_byte-slice_split 10 text) ∙ ap (join_with_byte 10) p.divided ∙ joined lines rest

pub capture_begins : (text : List ℕ) (header : Header) (ds : List Numbered) → IsCapture text header ds → Begins text header ds
capture_begins text header ds p =
    let (version, lines, stands) = p in
    let size = longest_line version in
    let before = stands.says.0 in
    let total = total_line (length ds) in
    let are : text ≡ whole_lines before ++ (total ++ 10 ∷ []) =
    text_is text lines [] (Nothing version header) ds stands ∙ append-nil (whole_lines lines) ∙ ap whole_lines stands.says.1 ∙ whole_lines-push before total in
    let divided : at_ends text ≡ before ++ total ∷ [] ∷ [] = stands.divided ∙ ap (λ l. l ++ [] ∷ []) stands.says.1 ∙ append_assoc before (total ∷ []) ([] ∷ []) in
    let no_end : All HasNoEnd before = all_front HasNoEnd before (total ∷ [] ∷ []) (subst (λ l. All HasNoEnd l) divided (ends_no_end text)) in
    let narrow : All (λ (l : List ℕ). length l ≤ size) before = all_front (λ (l : List ℕ). length l ≤ size) before (total ∷ []) (subst (λ s. All (λ (l : List ℕ). length l ≤ size) s) stands.says.1 stands.narrow) in
    let short : length (whole_lines before) ≤ 2 ^ 40 = omega (arith, stands.short, ap length are, length-append (whole_lines before) (total ++ 10 ∷ [])) in
    record {
      read = whole_lines before;
      more = total ++ 10 ∷ [];
      lines = before;
      are = are;
      stands = (version, stands-whole_lines before (Body version header) ds (whole_each size before no_end narrow) short stands.says.2);
    }
