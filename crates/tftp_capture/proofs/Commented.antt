-- A text with comments has no fault, and says its header and its datagrams.
use Rattle.std.proofs.Common.{◌≡◌, ◌≢◌, ℕ, suc, lit≤, ◌+◌, ◌^◌, ◌<◌, ◌≤◌, List, [], ◌∷◌, ◌++◌, length, map, All, codes, refl, ap, arith, length-append, None}
use Rattle.std.specs.List.{AllZip}
use Rattle.std.proofs.lemmas.List.{length-map}
use Rattle.std.proofs.lemmas.List.Elements.{All-append, All-cons, All-head, All-nil, All-tail}
use Rattle.tftp_capture.specs.CaptureText.{Datagram, Header}
use Rattle.tftp_capture.specs.{IsCapture, IsPort, Numbered, SaysDatagram, SaysDatagrams, end_line, head_line, line_with_host, said, service_line, text_with_hosts, total_line, Entry, IsEntry, commented_text, entry_line, numbered_in, said_in, Two}
use Rattle.tftp_capture.specs.Commented.Entry.{Comment, Passed}
use Rattle.tftp_capture.specs.CaptureText.Due.{Nothing}
use Rattle.tftp_capture.proofs.Canonical.{IsWholeLine, end_whole, head_whole, host_narrow, host_no_end, host_said, host_says, lines_le, no_lf_text, number_whole, stands-whole_lines, wider}

pub unnumbered-in : (n : ℕ) (entries : List Entry) → map (λ (d : Numbered). d.1) (numbered_in n entries) ≡ said_in entries
unnumbered-in n [] = refl
unnumbered-in n (Comment words ∷ entries) = unnumbered-in (n + 1) entries
unnumbered-in n (Passed d ∷ entries) = ap (λ ds. d ∷ ds) (unnumbered-in (n + 1) entries)

length-numbered_in : (n : ℕ) (entries : List Entry) → length (numbered_in n entries) ≡ length (said_in entries)
length-numbered_in n [] = refl
length-numbered_in n (Comment words ∷ entries) = length-numbered_in (n + 1) entries
length-numbered_in n (Passed d ∷ entries) = ap suc (length-numbered_in (n + 1) entries)

few_said : (entries : List Entry) → length (said_in entries) ≤ length entries
few_said [] = lit≤ tt
few_said (Comment words ∷ entries) = omega (arith, few_said entries)
few_said (Passed d ∷ entries) = omega (arith, few_said entries)

entry_whole : (e : Entry) → IsEntry e → IsWholeLine 131116 (entry_line e)
entry_whole (Comment words) is = record {
  no_end = All-append (λ b. b ≢ 10) (codes "# ") words (no_lf_text (codes "# ") refl) is.0;
  narrow = omega (arith, is.1, length-append (codes "# ") words);
}
entry_whole (Passed d) lawful = record { no_end = host_no_end d lawful; narrow = host_narrow d lawful }

lines_whole : (entries : List Entry) → All IsEntry entries → All (IsWholeLine 131116) (map entry_line entries)
lines_whole [] h = All-nil (IsWholeLine 131116)
lines_whole (e ∷ es) h = All-cons (IsWholeLine 131116) (entry_line e) (map entry_line es) (entry_whole e (All-head IsEntry e es h)) (lines_whole es (All-tail IsEntry e es h))

bodies : (n : ℕ) (entries : List Entry) → All IsEntry entries
    → AllZip (λ (l : ℕ × List ℕ) (d : Numbered). (l.0 ≡ d.0) × SaysDatagram Two l.1 d.1) (said n (map entry_line entries)) (numbered_in n entries)
bodies n [] h = tt
bodies n (Comment words ∷ es) h = bodies (n + 1) es (All-tail IsEntry (Comment words) es h)
bodies n (Passed d ∷ es) h =
    let lawful = All-head IsEntry (Passed d) es h in
    rw (host_said d lawful) ((refl, host_says d lawful), bodies (n + 1) es (All-tail IsEntry (Passed d) es h))

pub commented_is_read : (header : Header) (entries : List Entry) → IsPort header.service → header.rollover ≡ None → All IsEntry entries → length (commented_text header entries) ≤ 2 ^ 40
    → IsCapture (commented_text header entries) header (numbered_in 4 entries)
commented_is_read header entries port plain held short =
    let count = length-numbered_in 4 entries in
    let P = IsWholeLine 131116 in
    let total = total_line (length (said_in entries)) in
    let bodies_last = map entry_line entries ++ total ∷ [] in
    let lines = end_line header.named ∷ service_line header.service ∷ bodies_last in
    let few : length (said_in entries) < 2 ^ 64 =
    omega (arith, few_said entries, lines_le (head_line Two ∷ lines), length-append (map entry_line entries) (total ∷ []), length-map entries entry_line) in
    let says : SaysDatagrams Two (head_line Two ∷ end_line header.named ∷ service_line header.service ∷ map entry_line entries) header (numbered_in 4 entries) = record {
      after_head = end_line header.named ∷ service_line header.service ∷ map entry_line entries;
      at_end = 2;
      at_service = 3;
      bodies = said 4 (map entry_line entries);
      begins = refl;
      are = refl;
      port = port;
      plain = plain;
      each = bodies 4 entries held;
    } in (
      Two,
      head_line Two ∷ lines,
      stands-whole_lines _ (Nothing Two header) (numbered_in 4 entries)
          (All-cons P (head_line Two) lines (wider Two _ (head_whole Two))
          (All-cons P (end_line header.named) (service_line header.service ∷ bodies_last) (wider Two _ (end_whole header.named))
          (All-cons P (service_line header.service) bodies_last (wider Two _ (number_whole (codes "service ") header.service (lit≤ tt) (no_lf_text (codes "service ") refl) (omega (arith, port.1))))
          (All-append P (map entry_line entries) (total ∷ []) (lines_whole entries held)
          (All-cons P total [] (wider Two _ (number_whole (codes "total ") (length (said_in entries)) (lit≤ tt) (no_lf_text (codes "total ") refl) few)) (All-nil P))))))
          short
          (head_line Two ∷ end_line header.named ∷ service_line header.service ∷ map entry_line entries, rw count refl, says),
    )

-- ---- without comments it is the canonical text

lines-of : (ds : List Datagram) → map entry_line (map Passed ds) ≡ map line_with_host ds
lines-of [] = refl
lines-of (d ∷ ds) = ap (λ ls. line_with_host d ∷ ls) (lines-of ds)

said-of : (ds : List Datagram) → said_in (map Passed ds) ≡ ds
said-of [] = refl
said-of (d ∷ ds) = ap (λ l. d ∷ l) (said-of ds)

pub without_comments : (header : Header) (ds : List Datagram) → commented_text header (map Passed ds) ≡ text_with_hosts header ds
without_comments header ds = rw (lines-of ds, said-of ds) refl
