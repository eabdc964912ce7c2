-- A capture begins with each of its first datagrams.
use Rattle.std.proofs.Common.{◌≡◌, ℕ, ◌+◌, ◌^◌, ◌≤◌, ◌==◌, Bool, true, false, cond, List, [], ◌∷◌, ◌++◌, length, All, refl, sym, ap, ◌∙◌, subst, arith, append_assoc, append-nil, length-append}
use Rattle.std.specs.List.{AllZip, join_with_byte, slice_split}
use Rattle.std.proofs.lemmas.List.Concat.{flat_map-append}
use Rattle.std.proofs.lemmas.List.Elements.{All-cons, All-head, All-nil, All-tail}
use Rattle.std.proofs.lemmas.List.Splits.{join_with_byte-slice_split}
use Rattle.tftp_capture.specs.CaptureText.{Header}
use Rattle.tftp_capture.specs.{Begins, BeginsWith, IsCapture, Numbered, SaysDatagram, SaysDatagrams, end_line, head_line, longest_line, said, says_nothing, service_line, whole_lines, Version}
use Rattle.tftp_capture.specs.CaptureText.Due.{Body}
use Rattle.tftp_capture.proofs.Beginnings.{capture_begins}
use Rattle.tftp_capture.proofs.Canonical.{IsWholeLine, stands-whole_lines}
use Rattle.tftp_capture.proofs.InTwo.{Lacks, parts_lack}

abbrev NumberedLine : Type 0
NumberedLine = ℕ × List ℕ

-- the first lines say this
abbrev SaidFirst : ℕ → List (List ℕ) → List NumberedLine → Type 0
SaidFirst n lines said_first = (front others : List (List ℕ)) × (lines ≡ front ++ others) × (said n front ≡ said_first)

tail_same : (x y : NumberedLine) (xs ys : List NumberedLine) → x ∷ xs ≡ y ∷ ys → xs ≡ ys
tail_same x y xs ys e = cc

head_same : (x y : NumberedLine) (xs ys : List NumberedLine) → x ∷ xs ≡ y ∷ ys → x ≡ y
head_same x y xs ys e = cc

said_front : (n : ℕ) (lines : List (List ℕ)) (xs ys : List NumberedLine) → said n lines ≡ xs ++ ys → SaidFirst n lines xs
said_front n lines [] ys e = ([], lines, refl, refl)
said_front n [] (x ∷ xs) ys e = absurd (omega (arith, ap length e))
said_front n (l ∷ ls) (x ∷ xs) ys e =
    let go : (b : Bool) → b ≡ says_nothing l → cond b (said (n + 1) ls) ((n, l) ∷ said (n + 1) ls) ≡ x ∷ (xs ++ ys) → SaidFirst n (l ∷ ls) (x ∷ xs) =
    λ b is. elim b as (λ v. v ≡ says_nothing l → cond v (said (n + 1) ls) ((n, l) ∷ said (n + 1) ls) ≡ x ∷ (xs ++ ys) → SaidFirst n (l ∷ ls) (x ∷ xs)) [
      | true ↦ λ t k.
          let more = said_front (n + 1) ls (x ∷ xs) ys k in
          (l ∷ more.0, more.1, ap (λ z. l ∷ z) more.2, ap (λ v. cond v (said (n + 1) more.0) ((n, l) ∷ said (n + 1) more.0)) (sym t) ∙ more.3)
      | false ↦ λ t k.
          let more = said_front (n + 1) ls xs ys (tail_same (n, l) x (said (n + 1) ls) (xs ++ ys) k) in (
            l ∷ more.0,
            more.1,
            ap (λ z. l ∷ z) more.2,
            ap (λ v. cond v (said (n + 1) more.0) ((n, l) ∷ said (n + 1) more.0)) (sym t) ∙ ap (λ z. (n, l) ∷ z) more.3 ∙ ap (λ z. z ∷ xs) (head_same (n, l) x (said (n + 1) ls) (xs ++ ys) k),
          )
    ] is in
    go (says_nothing l) refl e

module _ (version : Version) where
  abbrev Each : List NumberedLine → List Numbered → Type 0
  Each = AllZip (λ (l : NumberedLine) (d : Numbered). (l.0 ≡ d.0) × SaysDatagram version l.1 d.1)

  each_front : (bodies : List NumberedLine) (es rest : List Numbered) → Each bodies (es ++ rest) → (front others : List NumberedLine) × (bodies ≡ front ++ others) × Each front es
  each_front bodies [] rest z = ([], bodies, refl, tt)
  each_front [] (d ∷ es) rest z = absurd z
  each_front (b ∷ bs) (d ∷ es) rest z = let more = each_front bs es rest z.1 in (b ∷ more.0, more.1, ap (λ x. b ∷ x) more.2, (z.0, more.3))

-- ---- texts

joined : (lines : List (List ℕ)) → join_with_byte 10 (lines ++ [] ∷ []) ≡ whole_lines lines
joined [] = refl
joined (l ∷ []) = sym (append-nil (l ++ 10 ∷ []))
joined (l ∷ k ∷ ls) = ap (λ s. l ++ 10 ∷ s) (joined (k ∷ ls)) ∙ sym (append_assoc l (10 ∷ []) (whole_lines (k ∷ ls)))

whole_front : (size : ℕ) (lines others more : List (List ℕ)) → All (Lacks 10) (lines ++ more) → All (λ (l : List ℕ). length l ≤ size) (lines ++ others) → All (IsWholeLine size) lines
whole_front size [] others more p q = All-nil (IsWholeLine size)
whole_front size (l ∷ ls) others more p q =
    All-cons (IsWholeLine size) l ls (record { no_end = All-head (Lacks 10) l (ls ++ more) p; narrow = All-head (λ (x : List ℕ). length x ≤ size) l (ls ++ others) q })
    (whole_front size ls others more (All-tail (Lacks 10) l (ls ++ more) p) (All-tail (λ (x : List ℕ). length x ≤ size) l (ls ++ others) q))

-- the lines of the first datagrams
says_front : (version : Version) (lines : List (List ℕ)) (h : Header) (ds es rest : List Numbered) → SaysDatagrams version lines h ds → ds ≡ es ++ rest → (front others : List (List ℕ)) × (lines ≡ front ++ others) × SaysDatagrams version front h es
says_front version lines h ds es rest says is =
    let each = each_front version says.bodies es rest (subst (Each version says.bodies) is says.each) in
    let head : List NumberedLine = (says.at_end, end_line h.named) ∷ (says.at_service, service_line h.service) ∷ [] in
    let after = said_front 2 says.after_head (head ++ each.0) each.1 (says.are ∙ ap (λ x. head ++ x) each.2) in (
      head_line version ∷ after.0,
      after.1,
      says.begins ∙ ap (λ x. head_line version ∷ x) after.2,
      record {
        after_head = after.0;
        at_end = says.at_end;
        at_service = says.at_service;
        bodies = each.0;
        begins = refl;
        are = after.3;
        port = says.port;
        plain = says.plain;
        each = each.3;
      },
    )

pub begins_front : (text : List ℕ) (h : Header) (ds es : List Numbered) → Begins text h ds → BeginsWith ds es → Begins text h es
begins_front text h ds es b (rest, is) =
    let (version, stands) = b.stands in
    let (front, others, are, says) = says_front version b.lines h ds es rest stands.says is in
    let size = longest_line version in
    let read : b.read ≡ whole_lines front ++ whole_lines others =
    sym (join_with_byte-slice_split 10 b.read) ∙ ap (join_with_byte 10) stands.divided ∙ joined b.lines ∙ ap whole_lines are ∙ flat_map-append (λ (l : List ℕ). l ++ 10 ∷ []) front others in
    let parts : slice_split (λ c. c == 10) b.read ≡ front ++ (others ++ [] ∷ []) = stands.divided ∙ ap (λ l. l ++ [] ∷ []) are ∙ append_assoc front others ([] ∷ []) in
    let whole = whole_front size front others (others ++ [] ∷ []) (subst (λ l. All (Lacks 10) l) parts (parts_lack 10 b.read)) (subst (λ l. All (λ (x : List ℕ). length x ≤ size) l) are stands.narrow) in
    let short : length (whole_lines front) ≤ 2 ^ 40 = omega (arith, stands.short, ap length read, length-append (whole_lines front) (whole_lines others)) in
    record {
      read = whole_lines front;
      more = whole_lines others ++ b.more;
      lines = front;
      are = b.are ∙ ap (λ l. l ++ b.more) read ∙ append_assoc (whole_lines front) (whole_lines others) b.more;
      stands = (version, stands-whole_lines front (Body version h) es whole short says);
    }

pub capture_begins_front : (text : List ℕ) (h : Header) (ds es : List Numbered) → IsCapture text h ds → BeginsWith ds es → Begins text h es
capture_begins_front text h ds es capture front = begins_front text h ds es (capture_begins text h ds capture) front
