-- What the worked texts say.
use Rattle.std.proofs.Common.{◌≡◌, ℕ, ◌<◌, ◌≤◌, ◌^◌, lit≤, true, false, List, [], ◌∷◌, length, All, drop, codes, refl, sym, subst}
use Rattle.std.proofs.lemmas.Bool.{false≢true}
use Rattle.std.proofs.lemmas.Slice.Eq.{bytes_eq-Decides}
use Rattle.std.proofs.lemmas.List.Elements.{All-cons, All-nil}
use Rattle.std.specs.List.{AllByRecursion}
use Rattle.std.specs.Fmt.{digits}
use Rattle.hex.specs.Hex.{encode_with}
use Rattle.tftp_packet.specs.Hosts.{no_host, Datagram}
use Rattle.tftp_packet.specs.{Dir, In, Out}
use Rattle.tftp_capture.specs.{text_of, head_line, numbered, IsCapture, IsLawful, IsPort, NamesNoHost, HasFault, worked_header, worked_text, BadHeader, Version, One, Two}
use Rattle.tftp_capture.specs.CaptureText.Due.{Head}
use Rattle.tftp_capture.proofs.Canonical.{canonical_is_read}
use Rattle.tests_worked.specs.{asks_for_a, acknowledges_hi, block, overrun_text, unversioned_text}
use Rattle.tests_worked.proofs.Payloads.{bytes_are}
use Rattle.tests_worked.proofs.Spelled.{request_spelled}
use Rattle.tftp_normal.proofs.Lawful.{at_each}

-- ---- the datagrams, which name no host

abbrev pub asks : Datagram
asks = record { dir = Out; local = 40000; host = no_host; remote = 69; payload = asks_for_a.payload }

abbrev pub brings : ℕ → Datagram
brings k = record { dir = In; local = 40000; host = no_host; remote = 41000; payload = block k (codes "hi") }

abbrev pub acknowledges : Datagram
acknowledges = record { dir = Out; local = 40000; host = no_host; remote = 41000; payload = acknowledges_hi.payload }

abbrev pub read_of : ℕ → List Datagram
read_of k = asks ∷ brings k ∷ acknowledges ∷ []

lawful : (dir : Dir) (remote : ℕ) (payload : List ℕ) → IsPort remote → AllByRecursion (λ b. b < 256) payload → length payload ≤ 65527
    → IsLawful (record { dir = dir; local = 40000; host = no_host; remote = remote; payload = payload })
lawful dir remote payload port bytes fits = record {
  local = (lit≤ tt, lit≤ tt);
  host = record { some = lit≤ tt; few = lit≤ tt; signs = ((lit≤ tt, lit≤ tt), tt) };
  remote = port;
  bytes = at_each payload bytes;
  fits = fits;
}

three : (P : Datagram → Type 0) (k : ℕ) → P asks → P (brings k) → P acknowledges → All P (read_of k)
three P k a b c = All-cons P asks (brings k ∷ acknowledges ∷ []) a (All-cons P (brings k) (acknowledges ∷ []) b (All-cons P acknowledges [] c (All-nil P)))

-- the canonical text of such a read says it
said : (k : ℕ) (text : List ℕ) → AllByRecursion (λ b. b < 256) (block k (codes "hi")) → text_of worked_header (read_of k) ≡ text → length text ≤ 2 ^ 40
    → IsCapture text worked_header (numbered 4 (read_of k))
said k text bytes is short =
    subst (λ t. IsCapture t worked_header (numbered 4 (read_of k))) is
    (canonical_is_read worked_header (read_of k) (lit≤ tt, lit≤ tt) refl
    (three IsLawful k (lawful Out 69 asks.payload (lit≤ tt, lit≤ tt) request_spelled.0 (lit≤ tt)) (lawful In 41000 (block k (codes "hi")) (lit≤ tt, lit≤ tt) bytes (lit≤ tt)) (lawful Out 41000 acknowledges.payload (lit≤ tt, lit≤ tt) (bytes_are acknowledges.payload refl) (lit≤ tt)))
    (three NamesNoHost k refl refl refl)
    (subst (λ t. length t ≤ 2 ^ 40) (sym is) short))

pub read_said : IsCapture worked_text worked_header (numbered 4 (read_of 1))
unfolding digits encode_with
read_said = said 1 worked_text (bytes_are (block 1 (codes "hi")) refl) refl (lit≤ tt)

pub overrun_said : IsCapture overrun_text worked_header (numbered 4 (read_of 2))
unfolding digits encode_with
overrun_said = said 2 overrun_text (bytes_are (block 2 (codes "hi")) refl) refl (lit≤ tt)

-- ---- a first line that is of no version

abbrev first_line : List ℕ
first_line = codes "tftp-capture 3"

no_version : (version : Version) → first_line ≡ head_line version → ⊥
no_version One e = let is : false ≡ true = (bytes_eq-Decides first_line (head_line One)).1 e in false≢true is
no_version Two e = let is : false ≡ true = (bytes_eq-Decides first_line (head_line Two)).1 e in false≢true is

abbrev rest_of_text : List ℕ
rest_of_text = drop 15 unversioned_text

pub no_version_said : HasFault unversioned_text [] 1 BadHeader
no_version_said = (
  first_line,
  rest_of_text,
  10,
  refl,
  record {
    lines = [];
    rest = first_line;
    due = Head;
    stands = record {
      divided = refl;
      says = (refl, refl);
      short = lit≤ tt;
      narrow = All-nil (λ (l : List ℕ). length l ≤ 131070);
      narrow_rest = lit≤ tt;
      last = λ o. absurd o;
    };
    at_line = refl;
    wrong = (lit≤ tt, refl, (refl, no_version));
  },
)
