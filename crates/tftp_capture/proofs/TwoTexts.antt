-- A text of version 1 in version 2 says what it said.
use Rattle.std.proofs.Common.{◌≡◌, ◌≢◌, ℕ, ◌+◌, ◌^◌, ◌≤◌, ◌==◌, inl, inr, Bool, true, false, cond, true≢false, List, [], ◌∷◌, ◌++◌, length, map, codes, decimal, All, refl, sym, ap, ◌∙◌, subst, arith, lit≤, append_assoc}
use Rattle.std.specs.List.{AllZip, join_with_byte, slice_split}
use Rattle.std.proofs.lemmas.List.{map-append}
use Rattle.std.proofs.lemmas.List.Elements.{All-cons, All-head, All-nil, All-tail}
use Rattle.std.proofs.lemmas.List.Splits.{join_with_byte-slice_split}
use Rattle.tftp_packet.specs.Hosts.{no_host}
use Rattle.tftp_packet.specs.{End, Client, Server}
use Rattle.tftp_capture.specs.{One, Two, IsCapture, Numbered, SaysDatagram, SaysDatagrams, Stands, dir_word, end_line, head_line, pieces, said, says_nothing, service_line, total_line, in_version_two, is_way, line_in_two, lines_in_two, pieces_in_two}
use Rattle.tftp_capture.specs.CaptureText.{Datagram, Header}
use Rattle.tftp_capture.specs.CaptureText.Due.{Nothing}
use Rattle.tftp_capture.proofs.Canonical.{no_lf_text}
use Rattle.tftp_capture.proofs.InTwo.{IsCutInFour, Lacks, as_two, cut_again, dir_is_way, line_kind, no_way_stays, parts_lack, two_longer, two_said, two_whole}

-- ---- lines

-- a line that says nothing stays
nothing_stays : (line : List ℕ) → says_nothing line ≡ true → line_in_two line ≡ line
nothing_stays line h = elim (line_kind line) as (λ _. line_in_two line ≡ line) [
  | inl e ↦ e
  | inr four ↦ absurd (true≢false (sym h ∙ (two_said line four).0))
]

says_as_much : (line : List ℕ) → says_nothing (line_in_two line) ≡ says_nothing line
says_as_much line = elim (line_kind line) as (λ _. says_nothing (line_in_two line) ≡ says_nothing line) [
  | inl e ↦ ap says_nothing e
  | inr four ↦ (two_said line four).1 ∙ sym (two_said line four).0
]

little_longer : (line : List ℕ) → length (line_in_two line) ≤ length line + 2
little_longer line = elim (line_kind line) as (λ _. length (line_in_two line) ≤ length line + 2) [
  | inl e ↦ omega (arith, ap length e)
  | inr four ↦ omega (arith, two_longer line four)
]

stays_whole : (line : List ℕ) → Lacks 10 line → Lacks 10 (line_in_two line)
stays_whole line h = elim (line_kind line) as (λ _. Lacks 10 (line_in_two line)) [
  | inl e ↦ subst (Lacks 10) (sym e) h
  | inr four ↦ two_whole line four h
]

-- a line whose first piece is no direction stays
word_stays : (line word : List ℕ) (ps : List (List ℕ)) → pieces line ≡ word ∷ ps → is_way word ≡ false → line_in_two line ≡ line
word_stays line word ps is h = ap (join_with_byte 32) (ap pieces_in_two is ∙ no_way_stays word ps h ∙ sym is) ∙ join_with_byte-slice_split 32 line

end_stays : (named : End) → line_in_two (end_line named) ≡ end_line named
end_stays Client = refl
end_stays Server = refl

service_stays : (port : ℕ) → line_in_two (service_line port) ≡ service_line port
service_stays port = word_stays (service_line port) (codes "service") (pieces (decimal port)) refl refl

total_stays : (count : ℕ) → line_in_two (total_line count) ≡ total_line count
total_stays count = word_stays (total_line count) (codes "total") (pieces (decimal count)) refl refl

-- ---- what the lines say

-- four parts that lack a space, with `-` as a third
five_lack : (word local remote digits : List ℕ) → All (Lacks 32) (word ∷ local ∷ remote ∷ digits ∷ []) → All (Lacks 32) (word ∷ local ∷ no_host ∷ remote ∷ digits ∷ [])
five_lack word local remote digits h =
    let after_word = All-tail (Lacks 32) word (local ∷ remote ∷ digits ∷ []) h in
    let dash : Lacks 32 no_host = All-cons (λ b. b ≢ 32) 45 [] (λ e. absurd (omega (arith, e))) (All-nil (λ b. b ≢ 32)) in
    All-cons (Lacks 32) word (local ∷ no_host ∷ remote ∷ digits ∷ []) (All-head (Lacks 32) word (local ∷ remote ∷ digits ∷ []) h)
    (All-cons (Lacks 32) local (no_host ∷ remote ∷ digits ∷ []) (All-head (Lacks 32) local (remote ∷ digits ∷ []) after_word)
    (All-cons (Lacks 32) no_host (remote ∷ digits ∷ []) dash (All-tail (Lacks 32) local (remote ∷ digits ∷ []) after_word)))

-- a datagram's line says the same datagram
datagram_in_two : (line : List ℕ) (d : Datagram) → SaysDatagram One line d → SaysDatagram Two (line_in_two line) d
datagram_in_two line d p =
    let four : IsCutInFour line = record { word = dir_word d.dir; local = p.local; remote = p.remote; digits = p.digits; cut = p.cut.0; way = dir_is_way d.dir } in
    let parts = five_lack (dir_word d.dir) p.local p.remote p.digits (subst (λ ps. All (Lacks 32) ps) p.cut.0 (parts_lack 32 line)) in
    let cut : pieces (line_in_two line) ≡ dir_word d.dir ∷ p.local ∷ no_host ∷ p.remote ∷ p.digits ∷ [] =
    ap (λ ps. pieces (join_with_byte 32 ps)) (as_two line four) ∙ cut_again 32 (dir_word d.dir) (p.local ∷ no_host ∷ p.remote ∷ p.digits ∷ []) parts in
    record {
      local = p.local;
      remote = p.remote;
      digits = p.digits;
      cut = cut ∙ ap (λ h. dir_word d.dir ∷ p.local ∷ h ∷ p.remote ∷ p.digits ∷ []) (sym p.cut.1);
      local_port = p.local_port;
      host = p.host;
      remote_port = p.remote_port;
      payload = p.payload;
      fits = p.fits;
    }

-- a datagram's line of version 2 stays
datagram_stays : (line : List ℕ) (d : Datagram) → SaysDatagram Two line d → line_in_two line ≡ line
datagram_stays line d p = ap (join_with_byte 32) (ap pieces_in_two p.cut ∙ sym p.cut) ∙ join_with_byte-slice_split 32 line

abbrev numbered_in_two : ℕ × List ℕ → ℕ × List ℕ
numbered_in_two line = (line.0, line_in_two line.1)

said_in_two : (n : ℕ) (lines : List (List ℕ)) → said n (map line_in_two lines) ≡ map numbered_in_two (said n lines)
said_in_two n [] = refl
said_in_two n (l ∷ ls) =
    let more = said_in_two (n + 1) ls in
    let go : (b : Bool) → cond b (said (n + 1) (map line_in_two ls)) ((n, line_in_two l) ∷ said (n + 1) (map line_in_two ls)) ≡ map numbered_in_two (cond b (said (n + 1) ls) ((n, l) ∷ said (n + 1) ls)) =
    λ b. elim b as (λ v. cond v (said (n + 1) (map line_in_two ls)) ((n, line_in_two l) ∷ said (n + 1) (map line_in_two ls)) ≡ map numbered_in_two (cond v (said (n + 1) ls) ((n, l) ∷ said (n + 1) ls))) [
      | true ↦ more
      | false ↦ ap (λ s. (n, line_in_two l) ∷ s) more
    ] in
    ap (λ b. cond b (said (n + 1) (map line_in_two ls)) ((n, line_in_two l) ∷ said (n + 1) (map line_in_two ls))) (says_as_much l) ∙ go (says_nothing l)

each_in_two : (bodies : List (ℕ × List ℕ)) (ds : List Numbered) → AllZip (λ (l : ℕ × List ℕ) (d : Numbered). (l.0 ≡ d.0) × SaysDatagram One l.1 d.1) bodies ds
    → AllZip (λ (l : ℕ × List ℕ) (d : Numbered). (l.0 ≡ d.0) × SaysDatagram Two l.1 d.1) (map numbered_in_two bodies) ds
each_in_two [] [] z = tt
each_in_two [] (d ∷ ds) z = absurd z
each_in_two (b ∷ bs) [] z = absurd z
each_in_two (b ∷ bs) (d ∷ ds) z = ((z.0.0, datagram_in_two b.1 d.1 z.0.1), each_in_two bs ds z.1)

lines_say : (lines : List (List ℕ)) (header : Header) (ds : List Numbered) → SaysDatagrams One lines header ds → SaysDatagrams Two (lines_in_two lines) header ds
lines_say lines header ds p = record {
  after_head = map line_in_two p.after_head;
  at_end = p.at_end;
  at_service = p.at_service;
  bodies = map numbered_in_two p.bodies;
  begins = ap lines_in_two p.begins;
  are =
      said_in_two 2 p.after_head ∙ ap (map numbered_in_two) p.are
      ∙ ap (λ l. (p.at_end, l) ∷ (p.at_service, line_in_two (service_line header.service)) ∷ map numbered_in_two p.bodies) (end_stays header.named)
      ∙ ap (λ l. (p.at_end, end_line header.named) ∷ (p.at_service, l) ∷ map numbered_in_two p.bodies) (service_stays header.service);
  port = p.port;
  plain = p.plain;
  each = each_in_two p.bodies ds p.each;
}

-- ---- a text of version 1

pub map_whole : (lines : List (List ℕ)) → All (Lacks 10) lines → All (Lacks 10) (map line_in_two lines)
map_whole [] h = All-nil (Lacks 10)
map_whole (l ∷ ls) h = All-cons (Lacks 10) (line_in_two l) (map line_in_two ls) (stays_whole l (All-head (Lacks 10) l ls h)) (map_whole ls (All-tail (Lacks 10) l ls h))

map_narrow : (lines : List (List ℕ)) → All (λ (l : List ℕ). length l ≤ 131070) lines → All (λ (l : List ℕ). length l ≤ 131116) (map line_in_two lines)
map_narrow [] h = All-nil (λ (l : List ℕ). length l ≤ 131116)
map_narrow (l ∷ ls) h =
    All-cons (λ (l : List ℕ). length l ≤ 131116) (line_in_two l) (map line_in_two ls) (omega (arith, little_longer l, All-head (λ (l : List ℕ). length l ≤ 131070) l ls h)) (map_narrow ls (All-tail (λ (l : List ℕ). length l ≤ 131070) l ls h))

one_in_two : (text : List ℕ) (lines : List (List ℕ)) (header : Header) (ds : List Numbered) → Stands text lines [] (Nothing One header) ds → length (in_version_two text) ≤ 2 ^ 40 → IsCapture (in_version_two text) header ds
one_in_two text lines header ds p short =
    let before = p.says.0 in
    let total = total_line (length ds) in
    let says = p.says.2 in
    let after = says.after_head ++ total ∷ [] in
    let are : lines ≡ head_line One ∷ after = p.says.1 ∙ ap (λ l. l ++ total ∷ []) says.begins in
    let divided : slice_split (λ b. b == 10) text ≡ head_line One ∷ (after ++ [] ∷ []) = p.divided ∙ ap (λ l. l ++ [] ∷ []) are in
    let whole : All (Lacks 10) (after ++ [] ∷ []) = All-tail (Lacks 10) (head_line One) (after ++ [] ∷ []) (subst (λ l. All (Lacks 10) l) divided (parts_lack 10 text)) in
    let head : Lacks 10 (head_line Two) = no_lf_text (head_line Two) refl in
    let mapped : map line_in_two (after ++ [] ∷ []) ≡ map line_in_two after ++ [] ∷ [] = map-append line_in_two after ([] ∷ []) in
    let narrow : All (λ (l : List ℕ). length l ≤ 131070) after = All-tail (λ (l : List ℕ). length l ≤ 131070) (head_line One) after (subst (λ l. All (λ (l : List ℕ). length l ≤ 131070) l) are p.narrow) in
    let last : map line_in_two after ≡ map line_in_two says.after_head ++ total ∷ [] = map-append line_in_two says.after_head (total ∷ []) ∙ ap (λ l. map line_in_two says.after_head ++ l ∷ []) (total_stays (length ds)) in (
      Two,
      head_line Two ∷ map line_in_two after,
      record {
        divided =
            ap (λ l. slice_split (λ b. b == 10) (join_with_byte 10 (lines_in_two l))) divided
            ∙ cut_again 10 (head_line Two) (map line_in_two (after ++ [] ∷ [])) (All-cons (Lacks 10) (head_line Two) (map line_in_two (after ++ [] ∷ [])) head (map_whole (after ++ [] ∷ []) whole))
            ∙ ap (λ l. head_line Two ∷ l) mapped;
        says = (head_line Two ∷ map line_in_two says.after_head, ap (λ l. head_line Two ∷ l) last, subst (λ l. SaysDatagrams Two l header ds) (ap lines_in_two says.begins) (lines_say before header ds says));
        short = short;
        narrow = All-cons (λ (l : List ℕ). length l ≤ 131116) (head_line Two) (map line_in_two after) (lit≤ tt) (map_narrow after narrow);
        narrow_rest = lit≤ tt;
        last = λ o. refl;
      },
    )

-- ---- a text of version 2

abbrev AllStay : List (ℕ × List ℕ) → Type 0
AllStay [] = Unit {0}
AllStay (l ∷ ls) = (line_in_two l.1 ≡ l.1) × AllStay ls

lines_stay : (n : ℕ) (lines : List (List ℕ)) → AllStay (said n lines) → map line_in_two lines ≡ lines
lines_stay n [] h = refl
lines_stay n (l ∷ ls) h =
    let go : (b : Bool) → b ≡ says_nothing l → AllStay (cond b (said (n + 1) ls) ((n, l) ∷ said (n + 1) ls)) → map line_in_two (l ∷ ls) ≡ l ∷ ls =
    λ b is. elim b as (λ v. v ≡ says_nothing l → AllStay (cond v (said (n + 1) ls) ((n, l) ∷ said (n + 1) ls)) → map line_in_two (l ∷ ls) ≡ l ∷ ls) [
      | true ↦ λ t k. ap (λ x. x ∷ map line_in_two ls) (nothing_stays l (sym t)) ∙ ap (λ x. l ∷ x) (lines_stay (n + 1) ls k)
      | false ↦ λ t k. ap (λ x. x ∷ map line_in_two ls) k.0 ∙ ap (λ x. l ∷ x) (lines_stay (n + 1) ls k.1)
    ] is in
    go (says_nothing l) refl h

bodies_stay : (bodies : List (ℕ × List ℕ)) (ds : List Numbered) → AllZip (λ (l : ℕ × List ℕ) (d : Numbered). (l.0 ≡ d.0) × SaysDatagram Two l.1 d.1) bodies ds → AllStay bodies
bodies_stay [] [] z = tt
bodies_stay [] (d ∷ ds) z = absurd z
bodies_stay (b ∷ bs) [] z = absurd z
bodies_stay (b ∷ bs) (d ∷ ds) z = (datagram_stays b.1 d.1 z.0.1, bodies_stay bs ds z.1)

two_stays : (text : List ℕ) (lines : List (List ℕ)) (header : Header) (ds : List Numbered) → Stands text lines [] (Nothing Two header) ds → in_version_two text ≡ text
two_stays text lines header ds p =
    let total = total_line (length ds) in
    let says = p.says.2 in
    let divided : slice_split (λ b. b == 10) text ≡ head_line Two ∷ (says.after_head ++ total ∷ [] ∷ []) =
    p.divided ∙ ap (λ l. l ++ [] ∷ []) (p.says.1 ∙ ap (λ l. l ++ total ∷ []) says.begins) ∙ ap (λ l. head_line Two ∷ l) (append_assoc says.after_head (total ∷ []) ([] ∷ [])) in
    let said_stay : AllStay (said 2 says.after_head) = subst AllStay (sym says.are) (end_stays header.named, (service_stays header.service, bodies_stay says.bodies ds says.each)) in
    let stay : map line_in_two (says.after_head ++ total ∷ [] ∷ []) ≡ says.after_head ++ total ∷ [] ∷ [] =
    map-append line_in_two says.after_head (total ∷ [] ∷ []) ∙ ap (λ l. l ++ line_in_two total ∷ [] ∷ []) (lines_stay 2 says.after_head said_stay) ∙ ap (λ l. says.after_head ++ l ∷ [] ∷ []) (total_stays (length ds)) in
    ap (λ l. join_with_byte 10 (lines_in_two l)) divided ∙ ap (λ l. join_with_byte 10 (head_line Two ∷ l)) stay ∙ sym (ap (join_with_byte 10) divided) ∙ join_with_byte-slice_split 10 text

pub says_the_same : (text : List ℕ) (header : Header) (ds : List Numbered) → IsCapture text header ds → length (in_version_two text) ≤ 2 ^ 40 → IsCapture (in_version_two text) header ds
says_the_same text header ds (One, lines, p) short = one_in_two text lines header ds p short
says_the_same text header ds (Two, lines, p) short = subst (λ t. IsCapture t header ds) (sym (two_stays text lines header ds p)) (Two, lines, p)
