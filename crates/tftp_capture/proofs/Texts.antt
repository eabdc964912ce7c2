-- How a text goes on after one of which no byte is wrong.
use Rattle.std.proofs.Common.{◌≡◌, ◌≢◌, ℕ, ◌+◌, ◌-◌, ◌^◌, ◌<◌, ◌≤◌, ◌==◌, true, false, cond, List, [], ◌∷◌, ◌++◌, length, All, refl, sym, ap, ◌∙◌, arith, append_assoc, append-nil, length-append, ne_eqb, None}
use Rattle.std.specs.List.{slice_split, onto_first}
use Rattle.std.proofs.lemmas.List.Elements.{All-weaker, All-push, All-head, All-tail}
use Rattle.std.proofs.lemmas.List.Splits.{slice_split_at, slice_split_none}
use Rattle.std.proofs.lemmas.Slice.Zip.{all_zipped_more}
use Rattle.tftp_packet.specs.{End}
use Rattle.tftp_capture.specs.CaptureText.{Datagram, Header}
use Rattle.tftp_capture.specs.{Due, IsOver, IsPort, Numbered, SaysDatagram, Says, Stands, end_line, head_line, longest, said, says_nothing, service_line, whole_lines, Version, HasNoEnd, IsPartOfLine, IsSkipped}
use Rattle.tftp_capture.specs.CaptureText.Due.{Head, EndLine, ServiceLine, Body, Nothing}

-- ---- a text divided at LF

abbrev pub at_ends : List ℕ → List (List ℕ)
at_ends text = slice_split (λ b. b == 10) text

-- the last of the first lines and the first of the others are one line
abbrev pub glue : List (List ℕ) → List (List ℕ) → List (List ℕ)
glue [] others = others
glue (last ∷ []) [] = last ∷ []
glue (last ∷ []) (first ∷ others) = (last ++ first) ∷ others
glue (line ∷ next ∷ lines) others = line ∷ glue (next ∷ lines) others

pub some_line : (xs : List ℕ) → (first : List ℕ) × (others : List (List ℕ)) × (at_ends xs ≡ first ∷ others)
some_line [] = ([], [], refl)
some_line (x ∷ xs) =
    let rest = some_line xs in
    elim (x == 10) as (λ b. (first : List ℕ) × (others : List (List ℕ)) × (cond b ([] ∷ at_ends xs) (onto_first x (at_ends xs)) ≡ first ∷ others)) [
      | true ↦ ([], at_ends xs, refl)
      | false ↦ (x ∷ rest.0, rest.1, ap (onto_first x) rest.2)
    ]

glue-onto_first : (x : ℕ) (s t : List ℕ) (ss ts : List (List ℕ)) → glue (onto_first x (s ∷ ss)) (t ∷ ts) ≡ onto_first x (glue (s ∷ ss) (t ∷ ts))
glue-onto_first x s t [] ts = refl
glue-onto_first x s t (r ∷ rs) ts = refl

pub at_ends-append : (xs ys : List ℕ) → at_ends (xs ++ ys) ≡ glue (at_ends xs) (at_ends ys)
at_ends-append [] ys = let other = some_line ys in rw other.2
at_ends-append (x ∷ xs) ys =
    let more = at_ends-append xs ys in
    let one = some_line xs in
    let other = some_line ys in
    elim (x == 10) as (λ b. cond b ([] ∷ at_ends (xs ++ ys)) (onto_first x (at_ends (xs ++ ys))) ≡ glue (cond b ([] ∷ at_ends xs) (onto_first x (at_ends xs))) (at_ends ys)) [
      | true ↦ ap (λ l. [] ∷ l) more ∙ (rw (one.2, other.2) refl)
      | false ↦ ap (onto_first x) more ∙ (rw (one.2, other.2) (sym (glue-onto_first x one.0 other.0 one.1 other.1)))
    ]

glue-lines : (lines : List (List ℕ)) (rest first : List ℕ) (others : List (List ℕ)) → glue (lines ++ rest ∷ []) (first ∷ others) ≡ lines ++ (rest ++ first) ∷ others
glue-lines [] rest first others = refl
glue-lines (l ∷ []) rest first others = refl
glue-lines (l ∷ k ∷ ls) rest first others = ap (λ s. l ∷ s) (glue-lines (k ∷ ls) rest first others)

pub at_ends-after : (xs ys : List ℕ) (lines : List (List ℕ)) (rest first : List ℕ) (others : List (List ℕ)) → at_ends xs ≡ lines ++ rest ∷ [] → at_ends ys ≡ first ∷ others
    → at_ends (xs ++ ys) ≡ lines ++ (rest ++ first) ∷ others
at_ends-after xs ys lines rest first others e f = at_ends-append xs ys ∙ rw (e, f) (glue-lines lines rest first others)

no_lf : (xs : List ℕ) → HasNoEnd xs → All (λ b. (b == 10) ≡ false) xs
no_lf xs h = All-weaker (λ b. b ≢ 10) (λ b. (b == 10) ≡ false) (λ b n. ne_eqb b 10 n) xs h

pub at_ends-line : (line : List ℕ) → HasNoEnd line → at_ends line ≡ line ∷ []
at_ends-line line h = slice_split_none (λ b. b == 10) line (no_lf line h)

pub at_ends-whole_line : (line : List ℕ) → HasNoEnd line → at_ends (line ++ 10 ∷ []) ≡ line ∷ [] ∷ []
at_ends-whole_line line h = slice_split_at (λ b. b == 10) line 10 [] (no_lf line h) refl

-- ---- what lines say

pub said-push : (n : ℕ) (lines : List (List ℕ)) (line : List ℕ) → says_nothing line ≡ false → said n (lines ++ line ∷ []) ≡ said n lines ++ (n + length lines, line) ∷ []
said-push n [] line h = rw h (ap (λ k. (k, line) ∷ []) (omega arith))
said-push n (l ∷ ls) line h =
    let more : said (n + 1) (ls ++ line ∷ []) ≡ said (n + 1) ls ++ (n + length (l ∷ ls), line) ∷ [] =
    said-push (n + 1) ls line h ∙ ap (λ k. said (n + 1) ls ++ (k, line) ∷ []) (omega arith) in
    elim (says_nothing l) as (λ b. cond b (said (n + 1) (ls ++ line ∷ [])) ((n, l) ∷ said (n + 1) (ls ++ line ∷ [])) ≡ cond b (said (n + 1) ls) ((n, l) ∷ said (n + 1) ls) ++ (n + length (l ∷ ls), line) ∷ []) [
      | true ↦ more
      | false ↦ ap (λ s. (n, l) ∷ s) more
    ]

pub said-push_nothing : (n : ℕ) (lines : List (List ℕ)) (line : List ℕ) → says_nothing line ≡ true → said n (lines ++ line ∷ []) ≡ said n lines
said-push_nothing n [] line h = rw h
said-push_nothing n (l ∷ ls) line h =
    elim (says_nothing l) as (λ b. cond b (said (n + 1) (ls ++ line ∷ [])) ((n, l) ∷ said (n + 1) (ls ++ line ∷ [])) ≡ cond b (said (n + 1) ls) ((n, l) ∷ said (n + 1) ls)) [
      | true ↦ said-push_nothing (n + 1) ls line h
      | false ↦ ap (λ s. (n, l) ∷ s) (said-push_nothing (n + 1) ls line h)
    ]

-- lines that say nothing may come
abbrev pub IsSkippable : Due → Type 0
IsSkippable Head = ⊥
IsSkippable (EndLine version) = Unit {0}
IsSkippable (ServiceLine version named) = Unit {0}
IsSkippable (Body version header) = Unit {0}
IsSkippable (Nothing version header) = ⊥

pub not_over : (due : Due) → IsSkippable due → IsOver due → ⊥
not_over Head s o = s
not_over (EndLine version) s o = o
not_over (ServiceLine version named) s o = o
not_over (Body version header) s o = o
not_over (Nothing version header) s o = s

pub says-skip : (lines : List (List ℕ)) (line : List ℕ) (due : Due) (datagrams : List Numbered) → IsSkippable due → says_nothing line ≡ true → Says lines due datagrams → Says (lines ++ line ∷ []) due datagrams
says-skip lines line Head datagrams s h p = absurd s
says-skip lines line (EndLine version) datagrams s h p = (p.0 ++ line ∷ [], ap (λ l. l ++ line ∷ []) p.1, said-push_nothing 2 p.0 line h ∙ p.2, p.3)
says-skip lines line (ServiceLine version named) datagrams s h p = (p.0 ++ line ∷ [], p.1, ap (λ l. l ++ line ∷ []) p.2, said-push_nothing 2 p.0 line h ∙ p.3, p.4)
says-skip lines line (Body version header) datagrams s h p = record {
  after_head = p.after_head ++ line ∷ [];
  at_end = p.at_end;
  at_service = p.at_service;
  bodies = p.bodies;
  begins = ap (λ l. l ++ line ∷ []) p.begins;
  are = said-push_nothing 2 p.after_head line h ∙ p.are;
  port = p.port;
  plain = p.plain;
  each = p.each;
}
says-skip lines line (Nothing version header) datagrams s h p = absurd s

pub says-head : (version : Version) → Says (head_line version ∷ []) (EndLine version) []
says-head version = ([], refl, refl, refl)

pub says-end : (version : Version) (lines : List (List ℕ)) (named : End) → Says lines (EndLine version) [] → Says (lines ++ end_line named ∷ []) (ServiceLine version named) []
says-end version lines named p = (p.0 ++ end_line named ∷ [], 2 + length p.0, ap (λ l. l ++ end_line named ∷ []) p.1, said-push 2 p.0 (end_line named) refl ∙ ap (λ l. l ++ (2 + length p.0, end_line named) ∷ []) p.2, refl)

pub says-service : (version : Version) (lines : List (List ℕ)) (named : End) (port : ℕ) → IsPort port → Says lines (ServiceLine version named) []
    → Says (lines ++ service_line port ∷ []) (Body version (record { named = named; service = port; rollover = None })) []
says-service version lines named port h p = record {
  after_head = p.0 ++ service_line port ∷ [];
  at_end = p.1;
  at_service = 2 + length p.0;
  bodies = [];
  begins = ap (λ l. l ++ service_line port ∷ []) p.2;
  are = said-push 2 p.0 (service_line port) refl ∙ ap (λ l. l ++ (2 + length p.0, service_line port) ∷ []) p.3;
  port = h;
  plain = refl;
  each = tt;
}

pub says-datagram : (version : Version) (lines : List (List ℕ)) (line : List ℕ) (header : Header) (datagrams : List Numbered) (d : Datagram) → says_nothing line ≡ false → SaysDatagram version line d
    → Says lines (Body version header) datagrams → Says (lines ++ line ∷ []) (Body version header) (datagrams ++ (length lines + 1, d) ∷ [])
says-datagram version lines line header datagrams d h says p =
    let number : 2 + length p.after_head ≡ length lines + 1 = omega (arith, ap length p.begins) in
    record {
      after_head = p.after_head ++ line ∷ [];
      at_end = p.at_end;
      at_service = p.at_service;
      bodies = p.bodies ++ (2 + length p.after_head, line) ∷ [];
      begins = ap (λ l. l ++ line ∷ []) p.begins;
      are = said-push 2 p.after_head line h ∙ ap (λ l. l ++ (2 + length p.after_head, line) ∷ []) p.are;
      port = p.port;
      plain = p.plain;
      each = all_zipped_more (λ (l : ℕ × List ℕ) (d : Numbered). (l.0 ≡ d.0) × SaysDatagram version l.1 d.1) p.bodies datagrams (2 + length p.after_head, line) (length lines + 1, d) p.each (number, says);
    }

-- ---- more bytes

pub stands-nothing : Stands [] [] [] Head []
stands-nothing = record {
  divided = refl;
  says = (refl, refl);
  short = omega arith;
  narrow = λ k d h. absurd (omega arith);
  narrow_rest = omega arith;
  last = λ o. refl;
}

pub stands-part : (text bytes : List ℕ) (lines : List (List ℕ)) (due : Due) (datagrams : List Numbered) → (IsOver due → ⊥) → IsPartOfLine bytes (longest due) (2 ^ 40 - length text)
    → Stands text lines [] due datagrams → Stands (text ++ bytes) lines bytes due datagrams
stands-part text bytes lines due datagrams not_yet part p = record {
  divided = at_ends-after text bytes lines [] bytes [] p.divided (at_ends-line bytes part.no_end);
  says = p.says;
  short = omega (arith, length-append text bytes, part.short, p.short);
  narrow = p.narrow;
  narrow_rest = part.narrow;
  last = λ o. absurd (not_yet o);
}

pub stands-line : (text line : List ℕ) (lines : List (List ℕ)) (due due' : Due) (datagrams datagrams' : List Numbered) (room : ℕ) → longest due ≤ longest due' → IsPartOfLine line (longest due) room → length line < 2 ^ 40 - length text
    → Stands text lines [] due datagrams → Says (lines ++ line ∷ []) due' datagrams' → Stands (text ++ (line ++ 10 ∷ [])) (lines ++ line ∷ []) [] due' datagrams'
stands-line text line lines due due' datagrams datagrams' room wider part within p says = record {
  divided = at_ends-after text (line ++ 10 ∷ []) lines [] line ([] ∷ []) p.divided (at_ends-whole_line line part.no_end) ∙ sym (append_assoc lines (line ∷ []) ([] ∷ []));
  says = says;
  short = omega (arith, length-append text (line ++ 10 ∷ []), length-append line (10 ∷ []), p.short);
  narrow = All-push (λ (l : List ℕ). length l ≤ longest due') lines line (All-weaker (λ (l : List ℕ). length l ≤ longest due) (λ (l : List ℕ). length l ≤ longest due') (λ l h. omega (arith, h, wider)) lines p.narrow) (omega (arith, part.narrow, wider));
  narrow_rest = omega arith;
  last = λ o. refl;
}

pub stands-skips : (text : List ℕ) (lines skipped : List (List ℕ)) (due : Due) (datagrams : List Numbered) → IsSkippable due → All (IsSkipped (longest due)) skipped → length text + length (whole_lines skipped) ≤ 2 ^ 40
    → Stands text lines [] due datagrams → Stands (text ++ whole_lines skipped) (lines ++ skipped) [] due datagrams
stands-skips text lines [] due datagrams s all short p = rw (append-nil text, append-nil lines) p
stands-skips text lines (l ∷ ls) due datagrams s all short p =
    let first = All-head (IsSkipped (longest due)) l ls all in
    let size : length (whole_lines (l ∷ ls)) ≡ (length l + 1) + length (whole_lines ls) =
    length-append (l ++ 10 ∷ []) (whole_lines ls) ∙ ap (λ n. n + length (whole_lines ls)) (length-append l (10 ∷ [])) in
    let within : length l < 2 ^ 40 - length text = omega arith in
    let part : IsPartOfLine l (longest due) (2 ^ 40) = record { no_end = first.no_end; narrow = first.narrow; short = omega (arith, within) } in
    let one = stands-line text l lines due due datagrams datagrams (2 ^ 40) (omega arith) part within p (says-skip lines l due datagrams s first.nothing p.says) in
    let more : length (text ++ (l ++ 10 ∷ [])) + length (whole_lines ls) ≤ 2 ^ 40 = omega (arith, length-append text (l ++ 10 ∷ []), length-append l (10 ∷ [])) in
    let rest = stands-skips (text ++ (l ++ 10 ∷ [])) (lines ++ l ∷ []) ls due datagrams s (All-tail (IsSkipped (longest due)) l ls all) more one in
    rw (append_assoc text (l ++ 10 ∷ []) (whole_lines ls), append_assoc lines (l ∷ []) ls) at rest
