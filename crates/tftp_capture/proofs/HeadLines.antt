-- The head of a datagram's line: what it says, and that a line which begins with it says the same.
use Rattle.std.proofs.Common.{◌≡◌, ◌≢◌, ℕ, ◌+◌, ◌-◌, ◌*◌, ◌/◌, ◌%◌, ◌<◌, ◌≤◌, true, true≢false, inl, inr, List, [], ◌∷◌, ◌++◌, length, take, drop, get_or, get_or-take, take-take, All, codes, decimal, refl, sym, ap, ◌∙◌, subst, Result, Ok, Err, is_ok, arith, append_assoc, append-nil, length-append, length-take-le}
use Rattle.std.specs.List.{join_with_byte}
use Rattle.std.proofs.Math.Seq.{take-add, take-append_seam, take-length}
use Prim.Native.Nat.{min}
use Rattle.std.proofs.lemmas.Bool.{cases_lt}
use Rattle.std.proofs.lemmas.List.{drop-append-le, get_or-drop, length-drop, take-append-le, take_all, take_more}
use Rattle.std.proofs.lemmas.List.Elements.{All-append, All-nil, All-push}
use Rattle.std.proofs.lemmas.List.Splits.{join_with_byte-slice_split}
use Rattle.hex.specs.Hex.{decode_of}
use Rattle.hex.proofs.HexLemmas.{decode_of-ok}
use Rattle.tftp_packet.specs.Hosts.{IsHost}
use Rattle.net_streams.specs.Streams.{most_ahead}
use Rattle.tftp_capture.specs.{BeginsWithDatagram, BeginsWithLine, GoesOnAfter, HasNoEnd, HeadState, HoldsPart, IsDecoded, IsHead, IsPartOfLine, IsPort, LineError, MayName, PayloadEnds, SaysDatagram, SpellsBehind, SpellsPayload, Version, One, Two, dir_word, filled, head_text, pieces, says_nothing}
use Rattle.tftp_capture.specs.CaptureText.{Datagram}
use Rattle.tftp_capture.proofs.Bytes.{held_first, no_end_on}
use Rattle.tftp_capture.proofs.Canonical.{Plain, after_space, fields_cut, fields_with_host_cut, first_byte, no_lf, no_lf_text, plain_decimal, plain_dir, plain_hex, plain_signs}
use Rattle.tftp_capture.proofs.Payloads.{payload_whole}
use Rattle.tftp_capture.proofs.Skips.{divided}

-- a head and what follows it, field by field
parts_behind : Version → Datagram → List ℕ → List ℕ
parts_behind One d digits = decimal d.local ++ 32 ∷ (decimal d.remote ++ 32 ∷ digits)
parts_behind Two d digits = decimal d.local ++ 32 ∷ (d.host ++ 32 ∷ (decimal d.remote ++ 32 ∷ digits))

in_parts : (version : Version) (d : Datagram) (digits : List ℕ) → head_text version d.dir d.local d.host d.remote ++ digits ≡ dir_word d.dir ++ 32 ∷ parts_behind version d digits
unfolding parts_behind
in_parts One d digits = simp append_assoc
in_parts Two d digits = simp append_assoc

plain_port : (port : ℕ) → IsPort port → All Plain (decimal port)
plain_port port h = plain_decimal port (omega (arith, h.1))

-- a line that begins with the head, and spells a payload behind it
says_behind : (version : Version) (line digits : List ℕ) (d : Datagram) → line ≡ head_text version d.dir d.local d.host d.remote ++ digits → IsPort d.local → IsHost d.host → MayName version d.host → IsPort d.remote
    → SpellsPayload digits d.payload → length d.payload ≤ 65527 → SaysDatagram version line d
unfolding parts_behind
says_behind One line digits d is local host named remote payload fits = record {
  local = decimal d.local;
  remote = decimal d.remote;
  digits = digits;
  cut = (
    ap pieces (is ∙ in_parts One d digits)
        ∙ fields_cut (dir_word d.dir) (decimal d.local) (decimal d.remote) digits (plain_dir d.dir) (plain_port d.local local) (plain_port d.remote remote)
        ∙ ap (λ l. dir_word d.dir ∷ decimal d.local ∷ decimal d.remote ∷ l) (payload_whole digits d.payload payload),
    named,
  );
  local_port = (local, refl);
  host = host;
  remote_port = (remote, refl);
  payload = payload;
  fits = fits;
}
says_behind Two line digits d is local host named remote payload fits = record {
  local = decimal d.local;
  remote = decimal d.remote;
  digits = digits;
  cut =
      ap pieces (is ∙ in_parts Two d digits)
      ∙ fields_with_host_cut (dir_word d.dir) (decimal d.local) d.host (decimal d.remote) digits (plain_dir d.dir) (plain_port d.local local) (plain_signs d.host host.signs) (plain_port d.remote remote)
      ∙ ap (λ l. dir_word d.dir ∷ decimal d.local ∷ d.host ∷ decimal d.remote ∷ l) (payload_whole digits d.payload payload);
  local_port = (local, refl);
  host = host;
  remote_port = (remote, refl);
  payload = payload;
  fits = fits;
}

pub begins_with_datagram : (h : HeadState) → IsHead h → (rest bytes payload : List ℕ) → GoesOnAfter h.bytes h.line rest bytes → SpellsPayload rest payload → length payload ≤ 65527
    → BeginsWithDatagram h.version bytes (record { dir = h.dir; local = h.local; host = h.host; remote = h.remote; payload = payload }) h.line
begins_with_datagram h head rest bytes payload goes spells fits = record {
  line = h.bytes ++ rest;
  more = goes.more;
  are = goes.are;
  sized = goes.sized;
  says =
      says_behind h.version (h.bytes ++ rest) rest (record { dir = h.dir; local = h.local; host = h.host; remote = h.remote; payload = payload }) (ap (λ l. l ++ rest) head.spelled) head.local_port head.host head.named
      head.remote_port spells fits;
}

-- what follows a head up to where a line would end
pub goes_on : (head ahead : List ℕ) (len size : ℕ) → take len ahead ≡ head → len ≤ size → size < length ahead → get_or ahead size 0 ≡ 10 → GoesOnAfter head size (take (size - len) (drop len ahead)) ahead
goes_on head ahead len size is upto within here =
    let all : head ++ take (size - len) (drop len ahead) ≡ take size ahead =
    ap (λ l. l ++ take (size - len) (drop len ahead)) (sym is) ∙ sym (take-add len (size - len) ahead) ∙ ap (λ n. take n ahead) (let e : len + (size - len) ≡ size = omega arith in e) in
    record {
      more = drop (size + 1) ahead;
      are = divided ahead size within here ∙ ap (λ l. l ++ 10 ∷ drop (size + 1) ahead) (sym all);
      sized = ap length all ∙ length-take-le size ahead (omega arith);
    }

-- ---- the head of a line

-- a line is its head and its digits
head_and_digits : (version : Version) (line : List ℕ) (d : Datagram) → (s : SaysDatagram version line d) → line ≡ head_text version d.dir d.local d.host d.remote ++ s.digits
unfolding parts_behind
head_and_digits One line d s =
    let cut : pieces line ≡ dir_word d.dir ∷ decimal d.local ∷ decimal d.remote ∷ s.digits ∷ [] =
    s.cut.0 ∙ ap (λ l. dir_word d.dir ∷ l ∷ s.remote ∷ s.digits ∷ []) s.local_port.1 ∙ ap (λ r. dir_word d.dir ∷ decimal d.local ∷ r ∷ s.digits ∷ []) s.remote_port.1 in
    sym (join_with_byte-slice_split 32 line) ∙ ap (join_with_byte 32) cut ∙ sym (in_parts One d s.digits)
head_and_digits Two line d s =
    let cut : pieces line ≡ dir_word d.dir ∷ decimal d.local ∷ d.host ∷ decimal d.remote ∷ s.digits ∷ [] =
    s.cut ∙ ap (λ l. dir_word d.dir ∷ l ∷ d.host ∷ s.remote ∷ s.digits ∷ []) s.local_port.1 ∙ ap (λ r. dir_word d.dir ∷ decimal d.local ∷ d.host ∷ r ∷ s.digits ∷ []) s.remote_port.1 in
    sym (join_with_byte-slice_split 32 line) ∙ ap (join_with_byte 32) cut ∙ sym (in_parts Two d s.digits)

may_name : (version : Version) (line : List ℕ) (d : Datagram) → SaysDatagram version line d → MayName version d.host
may_name One line d s = s.cut.1
may_name Two line d s = s.host

-- how many digits spell a payload
pub digits_of_none : (digits payload : List ℕ) → length payload < 1 → SpellsPayload digits payload → 1 ≡ length digits
digits_of_none digits payload none (inl s) = sym (ap length s.0)
digits_of_none digits [] none (inr s) = absurd (s.0 refl)
digits_of_none digits (b ∷ bs) none (inr s) = absurd (omega (arith, none))

pub digits_of_some : (digits payload : List ℕ) → 1 ≤ length payload → SpellsPayload digits payload → 2 * length payload ≡ length digits
digits_of_some digits payload some (inl s) = absurd (omega (arith, some, ap length s.1))
digits_of_some digits payload some (inr s) = sym (decode_of-ok digits payload s.1).2

-- a payload that was filled
pub filled_payload : (digits payload : List ℕ) (ended : Result (Unit {0}) LineError) → PayloadEnds (filled ended payload) digits → true ≡ is_ok ended → SpellsPayload digits payload × (length payload ≤ 65527)
filled_payload digits payload (Ok _) ends is = ends
filled_payload digits payload (Err _) ends is = absurd (true≢false is)

-- the digits are part of the line
pub digits_within : (version : Version) (line : List ℕ) (d : Datagram) → (s : SaysDatagram version line d) → length s.digits ≤ length line
digits_within version line d s = omega (arith, ap length (head_and_digits version line d s), length-append (head_text version d.dir d.local d.host d.remote) s.digits)

-- what was copied from the front of a line, whatever comes behind it
pub copied_front : (count : ℕ) (line copy rest : List ℕ) → copy ≡ take count line → count ≤ length line → take count (copy ++ rest) ≡ take count line
copied_front count line copy rest is within =
    ap (λ l. take count (l ++ rest)) is ∙ ap (λ n. take n (take count line ++ rest)) (sym (length-take-le count line within)) ∙ take-append_seam (take count line) rest

-- the bytes before them are a head
pub head_of_line : (version : Version) (line bytes : List ℕ) (size : ℕ) (d : Datagram) → (s : SaysDatagram version line d) → (count : ℕ) → count ≡ length s.digits → bytes ≡ take (length line - count) line
    → IsHead (record { bytes = bytes; line = size; version = version; dir = d.dir; local = d.local; host = d.host; remote = d.remote })
head_of_line version line bytes size d s count all is =
    let head = head_text version d.dir d.local d.host d.remote in
    let parts : line ≡ head ++ s.digits = head_and_digits version line d s in
    let long : length line - count ≡ length head = omega (arith, ap length parts, length-append head s.digits, all) in
    record {
      spelled = is ∙ ap (λ n. take n line) long ∙ ap (take (length head)) parts ∙ take-append_seam head s.digits;
      local_port = s.local_port.0;
      host = s.host;
      named = may_name version line d s;
      remote_port = s.remote_port.0;
    }

-- ---- a line that says a datagram has no LF, and says something

digits_no_end : (digits payload : List ℕ) → SpellsPayload digits payload → HasNoEnd digits
digits_no_end digits payload (inl s) = subst HasNoEnd (sym s.0) (no_lf_text (codes "-") refl)
digits_no_end digits payload (inr s) = no_lf digits (plain_hex digits payload s.1)

field_no_end : (field rest : List ℕ) → All Plain field → HasNoEnd rest → HasNoEnd (field ++ 32 ∷ rest)
field_no_end field rest plain none = All-append (λ b. b ≢ 10) field (32 ∷ rest) (no_lf field plain) (after_space rest none)

parts_no_end : (version : Version) (d : Datagram) (digits : List ℕ) → IsPort d.local → IsHost d.host → IsPort d.remote → HasNoEnd digits → HasNoEnd (parts_behind version d digits)
unfolding parts_behind
parts_no_end One d digits local host remote none =
    field_no_end (decimal d.local) (decimal d.remote ++ 32 ∷ digits) (plain_port d.local local) (field_no_end (decimal d.remote) digits (plain_port d.remote remote) none)
parts_no_end Two d digits local host remote none =
    field_no_end (decimal d.local) (d.host ++ 32 ∷ (decimal d.remote ++ 32 ∷ digits)) (plain_port d.local local)
    (field_no_end d.host (decimal d.remote ++ 32 ∷ digits) (plain_signs d.host host.signs) (field_no_end (decimal d.remote) digits (plain_port d.remote remote) none))

pub begins_with_line : (version : Version) (bytes : List ℕ) (d : Datagram) (size : ℕ) → BeginsWithDatagram version bytes d size → BeginsWithLine bytes size
begins_with_line version bytes d size b =
    let s = b.says in
    let is : b.line ≡ dir_word d.dir ++ 32 ∷ parts_behind version d s.digits = head_and_digits version b.line d s ∙ in_parts version d s.digits in
    record {
      line = b.line;
      more = b.more;
      are = b.are;
      sized = b.sized;
      no_end =
          subst HasNoEnd (sym is)
          (field_no_end (dir_word d.dir) (parts_behind version d s.digits) (plain_dir d.dir) (parts_no_end version d s.digits s.local_port.0 s.host s.remote_port.0 (digits_no_end s.digits d.payload s.payload)));
      says = ap says_nothing is ∙ first_byte d.dir (32 ∷ parts_behind version d s.digits);
    }

-- the line that begins there
pub line_there : (version : Version) (bytes : List ℕ) (d : Datagram) (size : ℕ) → BeginsWithDatagram version bytes d size → SaysDatagram version (take size bytes) d
line_there version bytes d size b =
    let there : take size bytes ≡ b.line = ap (λ n. take n bytes) (sym b.sized) ∙ ap (take (length b.line)) b.are ∙ take-append_seam b.line (10 ∷ b.more) in
    subst (λ l. SaysDatagram version l d) (sym there) b.says

-- ---- a line that begins with a head and digits, of which more may come

head_no_end : (h : HeadState) → IsHead h → HasNoEnd h.bytes
head_no_end h head =
    let d : Datagram = record { dir = h.dir; local = h.local; host = h.host; remote = h.remote; payload = [] } in
    let is : h.bytes ≡ dir_word h.dir ++ 32 ∷ parts_behind h.version d [] = head.spelled ∙ sym (append-nil (head_text h.version h.dir h.local h.host h.remote)) ∙ in_parts h.version d [] in
    subst HasNoEnd (sym is)
    (field_no_end (dir_word h.dir) (parts_behind h.version d []) (plain_dir h.dir) (parts_no_end h.version d [] head.local_port head.host head.remote_port (All-nil (λ b. b ≢ 10))))

-- digits in pairs behind it have none either
pub pairs_no_end : (h : HeadState) → IsHead h → (held out : List ℕ) (len count : ℕ) → take len held ≡ h.bytes → decode_of (take (2 * count) (drop len held)) ≡ Ok out → HasNoEnd (take (len + 2 * count) held)
pairs_no_end h head held out len count begins decoded = no_end_on held len (2 * count) (subst HasNoEnd (sym begins) (head_no_end h head)) (no_lf _ (plain_hex _ out decoded))

-- nor has one more sign that is no LF
all_no_end : (held : List ℕ) (size : ℕ) → HasNoEnd (take size held) → size ≤ length held → length held ≤ size + 1 → (size < length held → get_or held (length held - 1) 0 ≢ 10) → HasNoEnd held
all_no_end held size none within most last =
    elim (cases_lt size (length held)) [
      | inl more ↦
          let all : length held ≡ size + 1 = omega arith in
          let at : length held - 1 ≡ size = omega arith in
          let whole : held ≡ take size held ++ get_or held size 0 ∷ [] = sym (take-length held) ∙ ap (λ n. take n held) all ∙ take_more held size 0 more in
          subst HasNoEnd (sym whole) (All-push (λ b. b ≢ 10) (take size held) (get_or held size 0) none ((rw at at last) more))
      | inr no_more ↦
          let all : size ≡ length held = omega arith in
          rw (all, take-length) at none
    ]

-- what is held up to the line's end has none
pub line_no_end : (h : HeadState) → IsHead h → (held out : List ℕ) (line size count : ℕ) → take (length h.bytes) held ≡ h.bytes → size ≡ min (length held) line → length h.bytes ≤ size
    → (digits : List ℕ) → digits ≡ take (size - length h.bytes) (drop (length h.bytes) held) → count ≡ length digits / 2 → decode_of (take (2 * count) digits) ≡ Ok out
    → (length digits % 2 ≡ 1 → get_or digits (length digits - 1) 0 ≢ 10) → HasNoEnd (take line held)
line_no_end h head held out line size count begins least upto digits are halves decoded last =
    let len = length h.bytes in
    let long : length digits ≡ size - len = ap length are ∙ length-take-le (size - len) (drop len held) (omega (arith, length-drop len held, least)) in
    let pairs = pairs_no_end h head held out len count begins (rw (are, take-take (2 * count) (size - len) (drop len held) (omega (arith, halves, long))) at decoded) in
    let all : length (take size held) ≡ size = length-take-le size held (omega (arith, least)) in
    let none : HasNoEnd (take size held) =
    all_no_end (take size held) (len + 2 * count) (rw (take-take (len + 2 * count) size held (omega (arith, halves, long, upto))) pairs) (omega (arith, all, halves, long, upto)) (omega (arith, all, halves, long, upto))
    (λ more.
    let at : size - 1 ≡ len + (length digits - 1) = omega (arith, more, all, long) in
    let there : get_or (take size held) (length (take size held) - 1) 0 ≡ get_or digits (length digits - 1) 0 =
    ap (λ k. get_or (take size held) (k - 1) 0) all ∙ get_or-take size held (size - 1) 0 (omega (arith, at, upto, more, all)) ∙ ap (λ k. get_or held k 0) at ∙ sym (get_or-drop len held (length digits - 1) 0)
    ∙ sym (get_or-take (size - len) (drop len held) (length digits - 1) 0 (omega (arith, long, more, all))) ∙ ap (λ l. get_or l (length digits - 1) 0) (sym are) in
    rw there (last (omega (arith, more, all, halves, long)))) in
    elim (cases_lt (length held) line) [
      | inl short ↦ subst HasNoEnd ((let e : size ≡ length held = omega (arith, least, short) in ap (λ n. take n held) e) ∙ take-length held ∙ sym (take_all line held (omega (arith, short)))) none
      | inr whole ↦ let e : size ≡ line = omega (arith, least, whole) in rw e at none
    ]

pub front_stays : (held new more : List ℕ) (from size : ℕ) → new ≡ held ++ more → from + size ≤ length held → take size (drop from new) ≡ take size (drop from held)
front_stays held new more from size is within =
    ap (λ l. take size (drop from l)) is ∙ ap (take size) (drop-append-le from held more (omega (arith, within)))
    ∙ take-append-le size (drop from held) more (omega (arith, within, length-drop from held))

-- where more comes, what was decoded stays so, and what was held is a part of a line
pub decoded_stays : (h : HeadState) (held new more payload : List ℕ) (count : ℕ) → new ≡ held ++ more → IsDecoded h held payload count → IsDecoded h new payload count
decoded_stays h held new more payload count is d = record {
  begins = front_stays held new more 0 (length h.bytes) is (omega (arith, d.within)) ∙ d.begins;
  decoded = rw (front_stays held new more (length h.bytes) (2 * count) is d.within) d.decoded;
  upto = d.upto;
  within = omega (arith, ap length is, length-append held more, d.within);
}

pub part_held : (held : List ℕ) (line : ℕ) → length held ≤ line → HasNoEnd (take line held) → IsPartOfLine held line line
part_held held line short no_end = record { no_end = subst HasNoEnd (take_all line held short) no_end; narrow = short; short = short }

pub part_stays : (held new more : List ℕ) (line : ℕ) → new ≡ held ++ more → length more ≤ most_ahead → IsPartOfLine held line line → HoldsPart new (length held) line line
part_stays held new more line is few part = record {
  within = omega (arith, ap length is, length-append held more);
  near = omega (arith, ap length is, length-append held more, few);
  part = subst (λ l. IsPartOfLine l line line) (sym (ap (take (length held)) is ∙ held_first held more)) part;
}

-- all of such a line is held
pub line_held : (held : List ℕ) (line seen : ℕ) → line ≤ length held → HasNoEnd (take line held) → HoldsPart held seen line line → HoldsPart held line line line
line_held held line seen within no_end before =
    let size = length-take-le line held within in
    record {
      within = within;
      near = omega (arith, before.near, before.part.narrow, length-take-le seen held before.within);
      part = record { no_end = no_end; narrow = omega (arith, size); short = omega (arith, size) };
    }

pub line_spells : (h : HeadState) (held payload : List ℕ) (count line : ℕ) → IsDecoded h held payload count → count ≡ length payload → line ≡ length h.bytes + 2 * length payload → SpellsBehind h.bytes (take line held) payload
line_spells h held payload count line d whole all = record {
  digits = take (2 * count) (drop (length h.bytes) held);
  are = (let e : line ≡ length h.bytes + 2 * count = omega (arith, all, whole) in ap (λ n. take n held) e) ∙ take-add (length h.bytes) (2 * count) held ∙ ap (λ l. l ++ take (2 * count) (drop (length h.bytes) held)) d.begins;
  decoded = d.decoded ∙ ap Ok (ap (λ n. take n payload) whole ∙ take-length payload);
}

pub says_spelled : (h : HeadState) → IsHead h → (line payload : List ℕ) → SpellsBehind h.bytes line payload → 1 ≤ length payload → length payload ≤ 65527
    → SaysDatagram h.version line (record { dir = h.dir; local = h.local; host = h.host; remote = h.remote; payload = payload })
says_spelled h head line payload s some fits =
    says_behind h.version line s.digits (record { dir = h.dir; local = h.local; host = h.host; remote = h.remote; payload = payload }) (s.are ∙ ap (λ l. l ++ s.digits) head.spelled) head.local_port head.host head.named
    head.remote_port (inr (λ e. absurd (omega (arith, some, ap length e)), s.decoded)) fits
