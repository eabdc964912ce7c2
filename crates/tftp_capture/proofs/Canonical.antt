-- The canonical text has no fault, and says its header and datagrams.
use Rattle.std.proofs.Common.{◌≡◌, ◌≢◌, ℕ, suc, lit≤, not, ◌&&◌, ◌+◌, ◌^◌, ◌<◌, ◌≤◌, ◌==◌, Bool, true, false, List, [], ◌∷◌, ◌++◌, length, map, All, codes, decimal, Ok, inl, inr, refl, ap, ◌∙◌, arith, append_assoc, length-append, ne_eqb, None}
use Rattle.std.specs.List.{AllByRecursion, AllZip, list_all}
use Rattle.std.specs.Str.Parse.{AllDigits}
use Rattle.std.proofs.lemmas.Bool.Decides.{nat_tests, Decides-and, Decides-by_and, Decides-eqb, Decides-not}
use Rattle.std.proofs.lemmas.Fmt.{decimal_is_IsNumeral, length-decimal-le}
use Rattle.std.proofs.lemmas.List.{length-map}
use Rattle.std.proofs.lemmas.List.Elements.{All-append, All-cons, All-head, All-nil, All-tail, All-weaker}
use Rattle.std.proofs.lemmas.List.Splits.{slice_split_at, slice_split_none}
use Rattle.hex.specs.Hex.{decode_of, encode_lower, is_hex_digit, lower_digits, IsBytes}
use Rattle.hex.proofs.HexLemmas.{decode_of-encode_lower, decode_of-ok, length-encode_with}
use Rattle.tftp_packet.specs.Hosts.{IsSign}
use Rattle.tftp_packet.specs.{Dir, In, Out}
use Rattle.tftp_packet.specs.{End, Client, Server}
use Rattle.tftp_capture.specs.CaptureText.{Datagram, Header}
use Rattle.tftp_capture.specs.{Due, IsCapture, IsLawful, IsPort, NamesNoHost, Numbered, SaysDatagram, SaysDatagrams, Says, Stands, datagram_line, dir_word, end_line, head_line, line_with_host, longest, longest_line, SpellsPayload, numbered, payload_text, pieces, said, says_nothing, service_line, text_of, text_with_hosts, total_line, whole_lines, Version, One, Two, HasNoEnd}
use Rattle.tftp_capture.specs.CaptureText.Due.{Nothing}
use Rattle.tftp_capture.proofs.Texts.{at_ends}

-- neither a space nor an LF
abbrev pub Plain : ℕ → Type 0
Plain b = (b ≢ 32) × (b ≢ 10)

pub no_space : (xs : List ℕ) → All Plain xs → All (λ b. (b == 32) ≡ false) xs
no_space xs h = All-weaker Plain (λ b. (b == 32) ≡ false) (λ b n. ne_eqb b 32 n.0) xs h

pub no_lf : (xs : List ℕ) → All Plain xs → All (λ b. b ≢ 10) xs
no_lf xs h = All-weaker Plain (λ b. b ≢ 10) (λ b n. n.1) xs h

plain_digit : (c : ℕ) → 48 ≤ c → Plain c
plain_digit c h = (λ e. absurd (omega arith), λ e. absurd (omega arith))

plain_digits : (xs : List ℕ) → AllDigits 10 xs → All Plain xs
plain_digits [] h = All-nil Plain
plain_digits (c ∷ cs) h =
    let low : 48 ≤ c = grind (arith, nat_tests, h.0) in
    All-cons Plain c cs (plain_digit c low) (plain_digits cs h.1)

pub plain_decimal : (n : ℕ) → n < 2 ^ 64 → All Plain (decimal n)
plain_decimal n h = plain_digits (decimal n) (decimal_is_IsNumeral n h).0.1

hex_low : (c : ℕ) → is_hex_digit c ≡ true → 48 ≤ c
hex_low c h = grind (arith, nat_tests)

pub plain_hex : (xs : List ℕ) (bytes : List ℕ) → decode_of xs ≡ Ok bytes → All Plain xs
plain_hex xs bytes h = All-weaker (λ c. is_hex_digit c ≡ true) Plain (λ c is. plain_digit c (hex_low c is)) xs (decode_of-ok xs bytes h).1

-- tests on the bytes of a text that is written out
abbrev is_plain : ℕ → Bool
is_plain b = not (b == 32) && not (b == 10)

abbrev is_no_lf : ℕ → Bool
is_no_lf b = not (b == 10)

plain_text : (xs : List ℕ) → list_all is_plain xs ≡ true → All Plain xs
plain_text xs h = (Decides-by_and is_plain Plain (list_all is_plain) (λ b. Decides-and _ _ (Decides-not _ (Decides-eqb b 32)) (Decides-not _ (Decides-eqb b 10))) refl (λ _ _. refl) xs).0 h

pub no_lf_text : (xs : List ℕ) → list_all is_no_lf xs ≡ true → HasNoEnd xs
no_lf_text xs h = (Decides-by_and is_no_lf (λ b. b ≢ 10) (list_all is_no_lf) (λ b. Decides-not _ (Decides-eqb b 10)) refl (λ _ _. refl) xs).0 h

plain_payload : (bytes : List ℕ) → IsBytes bytes → All Plain (payload_text bytes)
plain_payload [] h = plain_text (codes "-") refl
plain_payload (b ∷ bs) h = plain_hex (encode_lower (b ∷ bs)) (b ∷ bs) (decode_of-encode_lower (b ∷ bs) h)

pub plain_dir : (dir : Dir) → All Plain (dir_word dir)
plain_dir In = plain_text (codes "in") refl
plain_dir Out = plain_text (codes "out") refl

pub plain_signs : (xs : List ℕ) → AllByRecursion IsSign xs → All Plain xs
plain_signs [] h = All-nil Plain
plain_signs (b ∷ bs) h = All-cons Plain b bs (λ e. absurd (omega (arith, h.0.0, e)), λ e. absurd (omega (arith, h.0.0, e))) (plain_signs bs h.1)

pub first_byte : (dir : Dir) (rest : List ℕ) → says_nothing (dir_word dir ++ rest) ≡ false
first_byte In rest = refl
first_byte Out rest = refl

short_dir : (dir : Dir) → length (dir_word dir) ≤ 3
short_dir In = lit≤ tt
short_dir Out = lit≤ tt

short_payload : (bytes : List ℕ) → length bytes ≤ 65527 → length (payload_text bytes) ≤ 131054
short_payload [] h = lit≤ tt
short_payload (b ∷ bs) h = omega (arith, length-encode_with lower_digits (b ∷ bs))

spelled : (bytes : List ℕ) → IsBytes bytes → SpellsPayload (payload_text bytes) bytes
spelled [] h = inl (refl, refl)
spelled (b ∷ bs) h = inr (λ e. absurd (omega (arith, ap length e)), decode_of-encode_lower (b ∷ bs) h)

-- fields without a space, each with one behind it
pub fields_cut : (word local remote rest : List ℕ) → All Plain word → All Plain local → All Plain remote → pieces (word ++ 32 ∷ (local ++ 32 ∷ (remote ++ 32 ∷ rest))) ≡ word ∷ local ∷ remote ∷ pieces rest
fields_cut word local remote rest w l r =
    slice_split_at (λ b. b == 32) word 32 (local ++ 32 ∷ (remote ++ 32 ∷ rest)) (no_space word w) refl
    ∙ ap (λ s. word ∷ s)
    (slice_split_at (λ b. b == 32) local 32 (remote ++ 32 ∷ rest) (no_space local l) refl ∙ ap (λ s. local ∷ s) (slice_split_at (λ b. b == 32) remote 32 rest (no_space remote r) refl))

pub fields_with_host_cut : (word local host remote rest : List ℕ) → All Plain word → All Plain local → All Plain host → All Plain remote
    → pieces (word ++ 32 ∷ (local ++ 32 ∷ (host ++ 32 ∷ (remote ++ 32 ∷ rest)))) ≡ word ∷ local ∷ host ∷ remote ∷ pieces rest
fields_with_host_cut word local host remote rest w l h r =
    slice_split_at (λ b. b == 32) word 32 (local ++ 32 ∷ (host ++ 32 ∷ (remote ++ 32 ∷ rest))) (no_space word w) refl ∙ ap (λ s. word ∷ s) (fields_cut local host remote rest l h r)

pub after_space : (xs : List ℕ) → All (λ b. b ≢ 10) xs → All (λ b. b ≢ 10) (32 ∷ xs)
after_space xs h = All-cons (λ b. b ≢ 10) 32 xs (λ e. absurd (omega (arith, e))) h

module _ (d : Datagram) (lawful : IsLawful d) where
  payload_one : pieces (payload_text d.payload) ≡ payload_text d.payload ∷ []
  payload_one = slice_split_none (λ b. b == 32) (payload_text d.payload) (no_space _ (plain_payload d.payload lawful.bytes))

  local_plain : All Plain (decimal d.local)
  local_plain = plain_decimal d.local (omega (arith, lawful.local.1))

  remote_plain : All Plain (decimal d.remote)
  remote_plain = plain_decimal d.remote (omega (arith, lawful.remote.1))

  pub datagram_says : NamesNoHost d → SaysDatagram One (datagram_line d) d
  datagram_says unnamed = record {
    local = decimal d.local;
    remote = decimal d.remote;
    digits = payload_text d.payload;
    cut = (
      fields_cut (dir_word d.dir) (decimal d.local) (decimal d.remote) (payload_text d.payload) (plain_dir d.dir) local_plain remote_plain ∙ ap (λ l. dir_word d.dir ∷ decimal d.local ∷ decimal d.remote ∷ l) payload_one,
      unnamed,
    );
    local_port = (lawful.local, refl);
    host = lawful.host;
    remote_port = (lawful.remote, refl);
    payload = spelled d.payload lawful.bytes;
    fits = lawful.fits;
  }

  datagram_no_end : HasNoEnd (datagram_line d)
  datagram_no_end =
      All-append (λ b. b ≢ 10) (dir_word d.dir) _ (no_lf _ (plain_dir d.dir)) (after_space _ (All-append (λ b. b ≢ 10) (decimal d.local) _ (no_lf _ local_plain) (after_space _ (All-append (λ b. b ≢ 10) (decimal d.remote) _ (no_lf _ remote_plain) (after_space _ (no_lf _ (plain_payload d.payload lawful.bytes)))))))

  datagram_narrow : length (datagram_line d) ≤ 131070
  datagram_narrow =
      let p = short_payload d.payload lawful.fits in
      let l = length-decimal-le 5 d.local (omega arith) (omega (arith, lawful.local.1)) (omega (arith, lawful.local.1)) in
      let r = length-decimal-le 5 d.remote (omega arith) (omega (arith, lawful.remote.1)) (omega (arith, lawful.remote.1)) in
      omega (
        arith,
        p,
        l,
        r,
        short_dir d.dir,
        length-append (dir_word d.dir) (32 ∷ (decimal d.local ++ 32 ∷ (decimal d.remote ++ 32 ∷ payload_text d.payload))),
        length-append (decimal d.local) (32 ∷ (decimal d.remote ++ 32 ∷ payload_text d.payload)),
        length-append (decimal d.remote) (32 ∷ payload_text d.payload),
      )

  datagram_said : says_nothing (datagram_line d) ≡ false
  datagram_said = first_byte d.dir (32 ∷ (decimal d.local ++ 32 ∷ (decimal d.remote ++ 32 ∷ payload_text d.payload)))

  -- the same in version 2

  host_plain : All Plain d.host
  host_plain = plain_signs d.host lawful.host.signs

  -- the line from the host on
  abbrev after_local : List ℕ
  after_local = d.host ++ 32 ∷ (decimal d.remote ++ 32 ∷ payload_text d.payload)

  pub host_says : SaysDatagram Two (line_with_host d) d
  host_says = record {
    local = decimal d.local;
    remote = decimal d.remote;
    digits = payload_text d.payload;
    cut =
        fields_with_host_cut (dir_word d.dir) (decimal d.local) d.host (decimal d.remote) (payload_text d.payload) (plain_dir d.dir) local_plain host_plain remote_plain
        ∙ ap (λ l. dir_word d.dir ∷ decimal d.local ∷ d.host ∷ decimal d.remote ∷ l) payload_one;
    local_port = (lawful.local, refl);
    host = lawful.host;
    remote_port = (lawful.remote, refl);
    payload = spelled d.payload lawful.bytes;
    fits = lawful.fits;
  }

  pub host_no_end : HasNoEnd (line_with_host d)
  host_no_end =
      All-append (λ b. b ≢ 10) (dir_word d.dir) _ (no_lf _ (plain_dir d.dir))
      (after_space _ (All-append (λ b. b ≢ 10) (decimal d.local) _ (no_lf _ local_plain)
      (after_space _ (All-append (λ b. b ≢ 10) d.host _ (no_lf _ host_plain)
      (after_space _ (All-append (λ b. b ≢ 10) (decimal d.remote) _ (no_lf _ remote_plain) (after_space _ (no_lf _ (plain_payload d.payload lawful.bytes)))))))))

  pub host_narrow : length (line_with_host d) ≤ 131116
  host_narrow =
      let p = short_payload d.payload lawful.fits in
      let l = length-decimal-le 5 d.local (omega arith) (omega (arith, lawful.local.1)) (omega (arith, lawful.local.1)) in
      let r = length-decimal-le 5 d.remote (omega arith) (omega (arith, lawful.remote.1)) (omega (arith, lawful.remote.1)) in
      omega (
        arith,
        p,
        l,
        r,
        lawful.host.few,
        short_dir d.dir,
        length-append (dir_word d.dir) (32 ∷ (decimal d.local ++ 32 ∷ after_local)),
        length-append (decimal d.local) (32 ∷ after_local),
        length-append d.host (32 ∷ (decimal d.remote ++ 32 ∷ payload_text d.payload)),
        length-append (decimal d.remote) (32 ∷ payload_text d.payload),
      )

  pub host_said : says_nothing (line_with_host d) ≡ false
  host_said = first_byte d.dir (32 ∷ (decimal d.local ++ 32 ∷ after_local))

-- ---- whole lines

-- a line of at most so many bytes that may stand in a text
pub record IsWholeLine (size : ℕ) (line : List ℕ) : Type 0 where
  pub no_end : HasNoEnd line
  pub narrow : length line ≤ size

at_ends-whole_lines : (size : ℕ) (lines : List (List ℕ)) → All (IsWholeLine size) lines → at_ends (whole_lines lines) ≡ lines ++ [] ∷ []
at_ends-whole_lines size [] h = refl
at_ends-whole_lines size (l ∷ ls) h =
    let first = All-head (IsWholeLine size) l ls h in
    ap at_ends (append_assoc l (10 ∷ []) (whole_lines ls))
    ∙ slice_split_at (λ b. b == 10) l 10 (whole_lines ls) (All-weaker (λ b. b ≢ 10) (λ b. (b == 10) ≡ false) (λ b n. ne_eqb b 10 n) l first.no_end) refl
    ∙ ap (λ s. l ∷ s) (at_ends-whole_lines size ls (All-tail (IsWholeLine size) l ls h))

pub stands-whole_lines : (lines : List (List ℕ)) (due : Due) (datagrams : List Numbered) → All (IsWholeLine (longest due)) lines → length (whole_lines lines) ≤ 2 ^ 40 → Says lines due datagrams → Stands (whole_lines lines) lines [] due datagrams
stands-whole_lines lines due datagrams all short says = record {
  divided = at_ends-whole_lines (longest due) lines all;
  says = says;
  short = short;
  narrow = All-weaker (IsWholeLine (longest due)) (λ (l : List ℕ). length l ≤ longest due) (λ l w. w.narrow) lines all;
  narrow_rest = omega arith;
  last = λ o. refl;
}

pub lines_le : (lines : List (List ℕ)) → length lines ≤ length (whole_lines lines)
lines_le [] = lit≤ tt
lines_le (l ∷ ls) = omega (arith, length-append (l ++ 10 ∷ []) (whole_lines ls), length-append l (10 ∷ []), lines_le ls)

length-numbered : (n : ℕ) (ds : List Datagram) → length (numbered n ds) ≡ length ds
length-numbered n [] = refl
length-numbered n (d ∷ ds) = ap suc (length-numbered (n + 1) ds)

-- the canonical line of a datagram in a version says it
record IsCanonical (version : Version) (line : Datagram → List ℕ) (d : Datagram) : Type 0 where
  says : SaysDatagram version (line d) d
  whole : IsWholeLine (longest_line version) (line d)
  said : says_nothing (line d) ≡ false

lines_in_one : (ds : List Datagram) → All IsLawful ds → All NamesNoHost ds → All (IsCanonical One datagram_line) ds
lines_in_one [] h u = All-nil (IsCanonical One datagram_line)
lines_in_one (d ∷ ds) h u =
    let lawful = All-head IsLawful d ds h in
    All-cons (IsCanonical One datagram_line) d ds
    (record { says = datagram_says d lawful (All-head NamesNoHost d ds u); whole = record { no_end = datagram_no_end d lawful; narrow = datagram_narrow d lawful }; said = datagram_said d lawful })
    (lines_in_one ds (All-tail IsLawful d ds h) (All-tail NamesNoHost d ds u))

lines_in_two : (ds : List Datagram) → All IsLawful ds → All (IsCanonical Two line_with_host) ds
lines_in_two [] h = All-nil (IsCanonical Two line_with_host)
lines_in_two (d ∷ ds) h =
    let lawful = All-head IsLawful d ds h in
    All-cons (IsCanonical Two line_with_host) d ds
    (record { says = host_says d lawful; whole = record { no_end = host_no_end d lawful; narrow = host_narrow d lawful }; said = host_said d lawful })
    (lines_in_two ds (All-tail IsLawful d ds h))

pub wider : (version : Version) (line : List ℕ) → IsWholeLine 131070 line → IsWholeLine (longest_line version) line
wider One line w = w
wider Two line w = record { no_end = w.no_end; narrow = omega (arith, w.narrow) }

pub end_whole : (named : End) → IsWholeLine 131070 (end_line named)
end_whole Client = record { no_end = no_lf_text (codes "end client") refl; narrow = lit≤ tt }
end_whole Server = record { no_end = no_lf_text (codes "end server") refl; narrow = lit≤ tt }

-- a word, a space and a number
pub number_whole : (word : List ℕ) (n : ℕ) → length word ≤ 100 → HasNoEnd word → n < 2 ^ 64 → IsWholeLine 131070 (word ++ decimal n)
number_whole word n short no_end small = record {
  no_end = All-append (λ b. b ≢ 10) word (decimal n) no_end (no_lf _ (plain_decimal n small));
  narrow = omega (arith, length-append word (decimal n), length-decimal-le 20 n (omega arith) (omega arith) small);
}

pub head_whole : (version : Version) → IsWholeLine 131070 (head_line version)
head_whole One = record { no_end = no_lf_text (head_line One) refl; narrow = lit≤ tt }
head_whole Two = record { no_end = no_lf_text (head_line Two) refl; narrow = lit≤ tt }

module _ (version : Version) (line : Datagram → List ℕ) where
  bodies : (n : ℕ) (ds : List Datagram) → All (IsCanonical version line) ds → AllZip (λ (l : ℕ × List ℕ) (d : Numbered). (l.0 ≡ d.0) × SaysDatagram version l.1 d.1) (said n (map line ds)) (numbered n ds)
  bodies n [] h = tt
  bodies n (d ∷ ds) h =
      let first = All-head (IsCanonical version line) d ds h in
      rw first.said ((refl, first.says), bodies (n + 1) ds (All-tail (IsCanonical version line) d ds h))

  lines_whole : (ds : List Datagram) → All (IsCanonical version line) ds → All (IsWholeLine (longest_line version)) (map line ds)
  lines_whole [] h = All-nil (IsWholeLine (longest_line version))
  lines_whole (d ∷ ds) h = All-cons (IsWholeLine (longest_line version)) (line d) (map line ds) (All-head (IsCanonical version line) d ds h).whole (lines_whole ds (All-tail (IsCanonical version line) d ds h))

  whole_is_read : (header : Header) (ds : List Datagram) → IsPort header.service → header.rollover ≡ None → All (IsCanonical version line) ds
      → length (whole_lines (head_line version ∷ end_line header.named ∷ service_line header.service ∷ (map line ds ++ total_line (length ds) ∷ []))) ≤ 2 ^ 40
      → IsCapture (whole_lines (head_line version ∷ end_line header.named ∷ service_line header.service ∷ (map line ds ++ total_line (length ds) ∷ []))) header (numbered 4 ds)
  whole_is_read header ds port plain canonical short =
      let count = length-numbered 4 ds in
      let P = IsWholeLine (longest_line version) in
      let bodies_last = map line ds ++ total_line (length ds) ∷ [] in
      let lines = end_line header.named ∷ service_line header.service ∷ bodies_last in
      let few : length ds < 2 ^ 64 = omega (arith, lines_le (head_line version ∷ lines), length-append (map line ds) (total_line (length ds) ∷ []), length-map ds line) in
      let says : SaysDatagrams version (head_line version ∷ end_line header.named ∷ service_line header.service ∷ map line ds) header (numbered 4 ds) = record {
        after_head = end_line header.named ∷ service_line header.service ∷ map line ds;
        at_end = 2;
        at_service = 3;
        bodies = said 4 (map line ds);
        begins = refl;
        are = refl;
        port = port;
        plain = plain;
        each = bodies 4 ds canonical;
      } in (
        version,
        head_line version ∷ lines,
        stands-whole_lines _ (Nothing version header) (numbered 4 ds)
            (All-cons P (head_line version) lines (wider version _ (head_whole version))
            (All-cons P (end_line header.named) (service_line header.service ∷ bodies_last) (wider version _ (end_whole header.named))
            (All-cons P (service_line header.service) bodies_last (wider version _ (number_whole (codes "service ") header.service (lit≤ tt) (no_lf_text (codes "service ") refl) (omega (arith, port.1))))
            (All-append P (map line ds) (total_line (length ds) ∷ []) (lines_whole ds canonical)
            (All-cons P (total_line (length ds)) [] (wider version _ (number_whole (codes "total ") (length ds) (lit≤ tt) (no_lf_text (codes "total ") refl) few)) (All-nil P))))))
            short
            (head_line version ∷ end_line header.named ∷ service_line header.service ∷ map line ds, rw count refl, says),
      )

pub canonical_is_read : (header : Header) (ds : List Datagram) → IsPort header.service → header.rollover ≡ None → All IsLawful ds → All NamesNoHost ds → length (text_of header ds) ≤ 2 ^ 40 → IsCapture (text_of header ds) header (numbered 4 ds)
canonical_is_read header ds port plain lawful unnamed short = whole_is_read One datagram_line header ds port plain (lines_in_one ds lawful unnamed) short

pub hosts_are_read : (header : Header) (ds : List Datagram) → IsPort header.service → header.rollover ≡ None → All IsLawful ds → length (text_with_hosts header ds) ≤ 2 ^ 40 → IsCapture (text_with_hosts header ds) header (numbered 4 ds)
hosts_are_read header ds port plain lawful short = whole_is_read Two line_with_host header ds port plain (lines_in_two ds lawful) short
