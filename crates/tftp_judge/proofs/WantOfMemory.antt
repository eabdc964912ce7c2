-- Which datagrams stand on the lines before the one for which memory ran out: those that were given.
use Rattle.std.proofs.Common.{◌≡◌, ℕ, ◌+◌, ◌<◌, ◌≤◌, ◌⊎◌, inl, inr, List, [], ◌∷◌, ◌++◌, ◌==◌, length, length-append, All, Option, refl, sym, ap, ◌∙◌, subst, arith, append_assoc, append-nil}
use Rattle.std.proofs.lemmas.List.Elements.{All-cons, All-head, All-nil, All-tail, All-weaker}
use Rattle.tftp_capture.specs.CaptureText.{Datagram, Header}
use Rattle.tftp_capture.specs.{Begins, BeginsWith, Due, Numbered, Stands, SaysOneMore, TextFault}
use Rattle.tftp_capture.specs.CaptureText.Due.{Head, EndLine, ServiceLine, Body, Nothing}
use Rattle.std.specs.List.{slice_split}
use Rattle.law_end.proofs.Whole.Beginnings.{empty_is_lawful}
use Rattle.law_end.specs.{IsLawful}
use Rattle.tftp_packet.specs.{Rollover}
use Rattle.tftp_judge.specs.{LawfulBefore, MayWantAt, NoFaultBefore, header_by}
use Rattle.tftp_judge.proofs.TakenText.{holds_of, none_taken}
use Rattle.tftp_capture.proofs.Readings.{FaultIs, fault_is}
use Rattle.tftp_capture.proofs.Readings.FaultIs.{cut, wrong}
use Rattle.tftp_capture.proofs.Beginnings.{agree, before_or_past, begins_more}
use Rattle.tftp_capture.proofs.Texts.{at_ends-after, some_line, stands-nothing}
use Rattle.tftp_capture.proofs.Uniqueness.{no_longer}
use Rattle.tftp_capture.proofs.Walks.{Step, Walk, head_or, says_walk, tail_of}

-- ---- what further lines add stands on further lines

abbrev IsFrom : ℕ → Numbered → Type 0
IsFrom n d = n ≤ d.0

step_adds : (due : Due) (n : ℕ) (ds : List Numbered) (line : List ℕ) (mid : Due) (after : List Numbered) → Step due n ds line mid after → (after ≡ ds) ⊎ ((d : Datagram) × (after ≡ ds ++ (n, d) ∷ []))
step_adds Head n ds line mid after p = inl p.3
step_adds (EndLine version) n ds line mid after (inl p) = inl p.2
step_adds (EndLine version) n ds line mid after (inr p) = inl p.3
step_adds (ServiceLine version named) n ds line mid after (inl p) = inl p.2
step_adds (ServiceLine version named) n ds line mid after (inr p) = inl p.4
step_adds (Body version header) n ds line mid after (inl p) = inl p.2
step_adds (Body version header) n ds line mid after (inr (inl p)) = inr (p.0, p.4)
step_adds (Body version header) n ds line mid after (inr (inr p)) = inl p.2
step_adds (Nothing version header) n ds line mid after p = absurd p

later : (n m : ℕ) (more : List Numbered) → n ≤ m → All (IsFrom m) more → All (IsFrom n) more
later n m more within all = All-weaker (IsFrom m) (IsFrom n) (λ d h. omega (arith, h, within)) more all

walk_adds : (due : Due) (n : ℕ) (ds : List Numbered) (lines : List (List ℕ)) (due' : Due) (after : List Numbered) → Walk due n ds lines due' after → (more : List Numbered) × (after ≡ ds ++ more) × All (IsFrom n) more
walk_adds due n ds [] due' after p = ([], p.1 ∙ sym (append-nil ds), All-nil (IsFrom n))
walk_adds due n ds (l ∷ ls) due' after p =
    let (more, is, all) = walk_adds p.0 (n + 1) p.1 ls due' after p.3 in
    let past = later n (n + 1) more (omega arith) all in
    elim (step_adds due n ds l p.0 p.1 p.2) as (λ _. (more : List Numbered) × (after ≡ ds ++ more) × All (IsFrom n) more) [
      | inl same ↦ (more, is ∙ ap (λ x. x ++ more) same, past)
      | inr one ↦
          ((n, one.0) ∷ more, is ∙ ap (λ x. x ++ more) one.1 ∙ append_assoc ds ((n, one.0) ∷ []) more, All-cons (IsFrom n) (n, one.0) more (omega arith) past)
    ]

-- ---- datagrams on the lines before one

abbrev IsBefore : ℕ → Numbered → Type 0
IsBefore line d = d.0 < line

all_back : {A : Type 0} (P : A → Type 0) (xs ys : List A) → All P (xs ++ ys) → All P ys
all_back P [] ys h = h
all_back P (x ∷ xs) ys h = all_back P xs ys (All-tail P x (xs ++ ys) h)

-- the last is not among those before it
without_last : {A : Type 0} (P : A → Type 0) (ds es rest : List A) (x : A) → (P x → ⊥) → ds ++ x ∷ [] ≡ es ++ rest → All P es → BeginsWith ds es
without_last P ds [] rest x not e all = (ds, refl)
without_last P [] (y ∷ ys) rest x not e all = absurd (not (subst P (sym (ap (head_or x) e)) (All-head P y ys all)))
without_last P (d ∷ ds) (y ∷ ys) rest x not e all =
    let (more, is) = without_last P ds ys rest x not (ap tail_of e) (All-tail P y ys all) in
    (more, ap (λ v. v ∷ ds) (ap (head_or d) e) ∙ ap (λ v. y ∷ v) is)

-- ---- the line for which memory ran out

module _ (text more : List ℕ) (ds es : List Numbered) (line : ℕ) (header : Header) (begins : Begins (text ++ more) header es) (before : All (IsBefore line) es) where
  -- the line says one datagram more
  not_before : (d : Datagram) → IsBefore line (line, d) → ⊥
  not_before d h = omega (arith, h)

  one_more : SaysOneMore text ds line → BeginsWith ds es
  one_more p =
      let all = ds ++ (line, p.datagram) ∷ [] in
      elim (agree (text ++ more) p.header header all es (begins_more text more p.lines p.header all p.stands) begins).1 as (λ _. BeginsWith ds es) [
        | inl shorter ↦ without_last (IsBefore line) ds es shorter.0 (line, p.datagram) (not_before p.datagram) shorter.1 before
        | inr longer ↦
            let last = all_back (IsBefore line) ds ((line, p.datagram) ∷ longer.0) (subst (All (IsBefore line)) (longer.1 ∙ append_assoc ds ((line, p.datagram) ∷ []) longer.0) before) in
            absurd (not_before p.datagram (All-head (IsBefore line) (line, p.datagram) longer.0 last))
      ]

-- whatever follows, the text has no other datagrams on the lines before
pub before_want : (text more : List ℕ) (ds : List Numbered) (line : ℕ) → SaysOneMore text ds line → (header : Header) (es : List Numbered) → Begins (text ++ more) header es → All (λ d. d.0 < line) es → BeginsWith ds es
before_want text more ds line said header es begins before = one_more text more ds es line header begins before said

pub wanted_at : (text more : List ℕ) (ds : List Numbered) (line : ℕ) → SaysOneMore text ds line → MayWantAt (text ++ more) line
wanted_at text more ds line said = inr (said.header, ds, said.datagram, begins_more text more said.lines said.header (ds ++ (line, said.datagram) ∷ []) said.stands)

-- ---- no fault is before the line

split_length : (text more : List ℕ) (lines : List (List ℕ)) (rest : List ℕ) → slice_split (λ b. b == 10) text ≡ lines ++ rest ∷ [] → length lines + 1 ≤ length (slice_split (λ b. b == 10) (text ++ more))
split_length text more lines rest divided =
    let other = some_line more in
    let parts = at_ends-after text more lines rest other.0 other.1 divided other.2 in
    omega (arith, ap length parts, length-append lines ((rest ++ other.0) ∷ other.1))

fault_past : (text more : List ℕ) (lines : List (List ℕ)) (rest : List ℕ) (due : Due) (ds es : List Numbered) (at : ℕ) (fault : TextFault) → Stands text lines rest due ds → FaultIs (text ++ more) es at fault → length lines + 1 ≤ at
fault_past text more lines rest due ds es at _ stands (cut other p n) =
    omega (arith, split_length text more lines rest stands.divided, ap length p.stands.divided, length-append p.lines (p.rest ∷ []), p.at_line)
fault_past text more lines rest due ds es at fault stands (wrong read others byte e p) = elim (before_or_past read text byte others more (sym e)) as (λ _. length lines + 1 ≤ at) [
  | inl h ↦
      let longer = subst (λ t. length lines + 1 ≤ length (slice_split (λ b. b == 10) t)) (sym h.1) (split_length text h.0 lines rest stands.divided) in
      omega (arith, longer, ap length p.stands.divided, length-append p.lines (p.rest ∷ []), p.at_line)
  | inr h ↦ absurd (no_longer read h.0 byte p.lines lines p.rest rest p.due due es ds p.stands (subst (λ t. Stands t lines rest due ds) h.1 stands) fault p.wrong)
]

pub no_fault_before : (text more : List ℕ) (ds : List Numbered) (line : ℕ) → SaysOneMore text ds line → NoFaultBefore (text ++ more) line
no_fault_before text more ds line said es at fault has =
    omega (arith, said.at_line, fault_past text more said.lines [] (Body said.version said.header) (ds ++ (line, said.datagram) ∷ []) es at fault said.stands (fault_is (text ++ more) es at fault has))

-- every text may have a first line for which memory ran out
pub wants_first_line : (rollover : Option Rollover) (text : List ℕ) → MayWantAt text 1 × NoFaultBefore text 1 × LawfulBefore rollover text 1
wants_first_line rollover text = (inl refl, no_fault, none) where
  no_fault : NoFaultBefore text 1
  no_fault es at fault has = omega (arith, fault_past [] text [] [] Head [] es at fault stands-nothing (fault_is text es at fault has))

  none : LawfulBefore rollover text 1
  none h [] begins before = holds_of rollover IsLawful h [] [] (none_taken rollover h) (empty_is_lawful (header_by rollover h))
  none h (d ∷ es) begins before =
      let (more, is, from) = walk_adds Head 1 [] begins.lines (Body begins.stands.0 h) (d ∷ es) (says_walk begins.lines (Body begins.stands.0 h) (d ∷ es) begins.stands.1.says) in
      let first = All-head (IsFrom 1) d es (subst (All (IsFrom 1)) (sym is) from) in
      absurd (omega (arith, first, All-head (IsBefore 1) d es before))
