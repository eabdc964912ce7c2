-- The lines of a text, in the pieces that are written.
use Rattle.std.proofs.Common.{◌≡◌, ◌≢◌, ℕ, ◌+◌, List, [], ◌∷◌, ◌++◌, length, map, codes, decimal, Option, None, Some, refl, sym, ap, ◌∙◌, arith, append_assoc, append-nil, length-append}
use Rattle.std.specs.Io.KnownBytes.{Appends}
use Rattle.std.proofs.lemmas.List.{map-append}
use Rattle.std.proofs.lemmas.List.Concat.{flat_map-append}
use Rattle.hex.specs.Hex.{encode_lower}
use Rattle.tftp_capture.specs.{Version, One, Two, datagram_line, end_line, end_word, head_line, line_with_host, payload_text, service_line, text_of, total_line, whole_lines, Entry, comment_line, commented_text, entry_line, said_in, HasWritten, HasWrittenHosts, header_text_in, head_naming, line_naming}
use Rattle.net_streams.specs.Streams.{Gathers, Sink}
use Rattle.tftp_capture.specs.CaptureText.{Datagram, Header}
use Rattle.tftp_capture.specs.Commented.Entry.{Comment, Passed}
use Rattle.net_streams.proofs.DigitsLemmas.Encoding.{encode-append}
use Rattle.net_streams.proofs.StreamsLemmas.Gathering.{gathers_more, gathers_written}
use Rattle.tftp_capture.proofs.Skips.{whole_lines-push}

three_lines : (head named service : List ℕ) → head ++ ((10 ∷ codes "end ") ++ (named ++ ((10 ∷ codes "service ") ++ (service ++ 10 ∷ [])))) ≡ whole_lines (head ∷ (codes "end " ++ named) ∷ (codes "service " ++ service) ∷ [])
three_lines head named service =
    ap (λ l. head ++ ((10 ∷ codes "end ") ++ l)) (ap (λ l. named ++ ((10 ∷ codes "service ") ++ l)) (sym (append-nil (service ++ 10 ∷ []))) ∙ sym (append_assoc named (10 ∷ []) (codes "service " ++ ((service ++ 10 ∷ []) ++ []))))
    ∙ sym (append_assoc head (10 ∷ []) ((codes "end " ++ named ++ 10 ∷ []) ++ ((codes "service " ++ service ++ 10 ∷ []) ++ [])))

pub header_pieces : (version : Version) (header : Header) (head named service : List ℕ) → head ≡ head_line version → named ≡ end_word header.named → service ≡ decimal header.service
    → head ++ ((10 ∷ codes "end ") ++ (named ++ ((10 ∷ codes "service ") ++ (service ++ 10 ∷ [])))) ≡ header_text_in version header
header_pieces version header head named service d e f = three_lines head named service ∙ cc

pub head_and_payload : (host : Option (List ℕ)) (d : Datagram) → head_naming host d.dir d.local d.remote ++ (payload_text d.payload ++ 10 ∷ []) ≡ line_naming host d ++ 10 ∷ []
head_and_payload None d = simp append_assoc
head_and_payload (Some host) d = simp append_assoc

-- a payload that is not empty
pub payload_digits : (payload : List ℕ) → length payload ≢ 0 → payload_text payload ≡ encode_lower payload
payload_digits [] some = absurd (some refl)
payload_digits (b ∷ bs) some = refl

-- a payload in two parts, and the end of its line
pub parts_digits : (head rest : List ℕ) → length (head ++ rest) ≢ 0 → encode_lower head ++ (encode_lower rest ++ 10 ∷ []) ≡ payload_text (head ++ rest) ++ 10 ∷ []
parts_digits head rest some =
    sym (append_assoc (encode_lower head) (encode_lower rest) (10 ∷ [])) ∙ ap (λ l. l ++ 10 ∷ []) (sym (encode-append head rest) ∙ sym (payload_digits (head ++ rest) some))

-- ---- one more datagram, and the whole text, whatever the lines of datagrams are

module _ {A : Type 0} (line : A → List ℕ) (c0 c1 c2 : Option (List ℕ)) where
  line_written : (h0 h1 h2 front : List ℕ) (datagrams : List A) (d : A) → Gathers c0 c1 h0 h1 (front ++ whole_lines (map line datagrams)) → Gathers c1 c2 h1 h2 (line d ++ 10 ∷ [])
      → Gathers c0 c2 h0 h2 (front ++ whole_lines (map line (datagrams ++ d ∷ [])))
  line_written h0 h1 h2 front datagrams d h g =
      let lines : whole_lines (map line (datagrams ++ d ∷ [])) ≡ whole_lines (map line datagrams) ++ (line d ++ 10 ∷ []) =
      ap whole_lines (map-append line datagrams (d ∷ [])) ∙ whole_lines-push (map line datagrams) (line d) in
      let all : front ++ whole_lines (map line (datagrams ++ d ∷ [])) ≡ (front ++ whole_lines (map line datagrams)) ++ (line d ++ 10 ∷ []) =
      ap (λ l. front ++ l) lines ∙ sym (append_assoc front (whole_lines (map line datagrams)) (line d ++ 10 ∷ [])) in
      rw all (gathers_more _ _ _ _ _ _ _ _ h g)

  whole_written : (h0 h1 : List ℕ) (version : Version) (header : Header) (datagrams : List A) (count number : ℕ) → Gathers c0 c1 h0 h1 (header_text_in version header ++ whole_lines (map line datagrams)) → count ≡ number
      → Appends c1 c2 (h1 ++ (total_line count ++ 10 ∷ []))
      → Appends c0 c2 (h0 ++ whole_lines (head_line version ∷ end_line header.named ∷ service_line header.service ∷ (map line datagrams ++ total_line number ∷ [])))
  whole_written h0 h1 version header datagrams count number h counted a =
      let lines = map line datagrams in
      let head = header_text_in version header in
      let all : whole_lines (head_line version ∷ end_line header.named ∷ service_line header.service ∷ (lines ++ total_line number ∷ [])) ≡ head ++ whole_lines (lines ++ total_line number ∷ []) =
      flat_map-append (λ (l : List ℕ). l ++ 10 ∷ []) (head_line version ∷ end_line header.named ∷ service_line header.service ∷ []) (lines ++ total_line number ∷ []) in
      let joined : whole_lines (head_line version ∷ end_line header.named ∷ service_line header.service ∷ (lines ++ total_line number ∷ [])) ≡ (head ++ whole_lines lines) ++ (total_line count ++ 10 ∷ []) =
      all ∙ ap (λ l. head ++ l) (whole_lines-push lines (total_line number) ∙ ap (λ n. whole_lines lines ++ (total_line n ++ 10 ∷ [])) (sym counted))
      ∙ sym (append_assoc head (whole_lines lines) (total_line count ++ 10 ∷ [])) in
      rw joined (gathers_written c0 c1 c2 h0 h1 (head ++ whole_lines lines) (total_line count ++ 10 ∷ []) h a)

said-push : (entries : List Entry) (d : Datagram) → length (said_in (entries ++ Passed d ∷ [])) ≡ length (said_in entries) + 1
said-push [] d = refl
said-push (Comment words ∷ entries) d = said-push entries d
said-push (Passed e ∷ entries) d = omega (arith, said-push entries d)

said-comment : (entries : List Entry) (words : List ℕ) → said_in (entries ++ Comment words ∷ []) ≡ said_in entries
said-comment [] words = refl
said-comment (Comment others ∷ entries) words = said-comment entries words
said-comment (Passed e ∷ entries) words = ap (λ ds. e ∷ ds) (said-comment entries words)

module _ {W : Type 0} (contents : W → Option (List ℕ)) (start before now : Sink W) (count : ℕ) (header : Header) where
  pub datagram_written : (more : ℕ) (datagrams : List Datagram) (d : Datagram) → HasWritten contents start before count header datagrams
      → Gathers (contents before.inner) (contents now.inner) before.waits now.waits (datagram_line d ++ 10 ∷ []) → more ≡ count + 1 → HasWritten contents start now more header (datagrams ++ d ∷ [])
  datagram_written more datagrams d h g e = record {
    text = line_written datagram_line _ _ _ _ _ _ (header_text_in One header) datagrams d h.text g;
    are = e ∙ ap (λ n. n + 1) h.are ∙ sym (length-append datagrams (d ∷ []));
  }

  pub host_written : (more : ℕ) (entries : List Entry) (d : Datagram) → HasWrittenHosts contents start before count header entries
      → Gathers (contents before.inner) (contents now.inner) before.waits now.waits (line_with_host d ++ 10 ∷ []) → more ≡ count + 1 → HasWrittenHosts contents start now more header (entries ++ Passed d ∷ [])
  host_written more entries d h g e = record {
    text = line_written entry_line _ _ _ _ _ _ (header_text_in Two header) entries (Passed d) h.text g;
    are = e ∙ ap (λ n. n + 1) h.are ∙ sym (said-push entries d);
  }

  pub comment_written : (same : ℕ) (entries : List Entry) (words : List ℕ) → HasWrittenHosts contents start before count header entries
      → Gathers (contents before.inner) (contents now.inner) before.waits now.waits (comment_line words ++ 10 ∷ []) → same ≡ count → HasWrittenHosts contents start now same header (entries ++ Comment words ∷ [])
  comment_written same entries words h g e = record {
    text = line_written entry_line _ _ _ _ _ _ (header_text_in Two header) entries (Comment words) h.text g;
    are = e ∙ h.are ∙ sym (ap length (said-comment entries words));
  }

  pub text_written : (datagrams : List Datagram) → HasWritten contents start before count header datagrams → Appends (contents before.inner) (contents now.inner) (before.waits ++ (total_line count ++ 10 ∷ []))
      → Appends (contents start.inner) (contents now.inner) (start.waits ++ text_of header datagrams)
  text_written datagrams h a = whole_written datagram_line _ _ _ _ _ One header datagrams count (length datagrams) h.text h.are a

  pub hosts_written : (entries : List Entry) → HasWrittenHosts contents start before count header entries → Appends (contents before.inner) (contents now.inner) (before.waits ++ (total_line count ++ 10 ∷ []))
      → Appends (contents start.inner) (contents now.inner) (start.waits ++ commented_text header entries)
  hosts_written entries h a = whole_written entry_line _ _ _ _ _ Two header entries count (length (said_in entries)) h.text h.are a
