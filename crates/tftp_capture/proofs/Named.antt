-- A worked text of version 2, line by line.
use Rattle.std.proofs.Common.{◌≡◌, ℕ, ◌≤◌, true, List, [], ◌∷◌, ◌++◌, length, All, codes, inr, refl, ap, lit≤, arith}
use Rattle.std.specs.Char.{is_ascii_graphic}
use Rattle.std.specs.Fmt.{digits}
use Rattle.std.specs.List.{AllByRecursion, list_all}
use Rattle.std.proofs.lemmas.Bool.Decides.{nat_tests}
use Rattle.std.proofs.lemmas.List.Elements.{All-cons, All-nil, All-weaker, recursion_from_All}
use Rattle.std.proofs.lemmas.List.Sums.{AllPass-from_list_all}
use Rattle.hex.specs.Hex.{decode_pairs}
use Rattle.tftp_packet.specs.Hosts.{IsHost, IsSign}
use Rattle.tftp_packet.specs.{In, Out}
use Rattle.tftp_capture.specs.{Two, IsCapture, SaysDatagram, SaysDatagrams, named_datagrams, named_text, worked_header}
use Rattle.tftp_capture.specs.CaptureText.{Datagram}

sign_is : (b : ℕ) → is_ascii_graphic b ≡ true → IsSign b
sign_is b h = (grind (arith, nat_tests), grind (arith, nat_tests))

host_is : (bytes : List ℕ) → 1 ≤ length bytes → length bytes ≤ 45 → list_all is_ascii_graphic bytes ≡ true → IsHost bytes
host_is bytes some few signs = record {
  some = some;
  few = few;
  signs = recursion_from_All IsSign bytes (All-weaker (λ b. is_ascii_graphic b ≡ true) IsSign sign_is bytes (AllPass-from_list_all is_ascii_graphic bytes signs));
}

abbrev request_line : List ℕ
request_line = codes "out 40000 tftp.example 69 000161006f6374657400"

abbrev data_line : List ℕ
data_line = codes "in 40000 192.0.2.7 41000 000300016869"

abbrev ack_line : List ℕ
ack_line = codes "out 40000 192.0.2.7 41000 00040001"

-- the datagrams, by the places of their numbers
abbrev request : Datagram
request = record { dir = Out; local = 40000; host = codes "tftp.example"; remote = 69; payload = 0 ∷ 1 ∷ 97 ∷ 0 ∷ 111 ∷ 99 ∷ 116 ∷ 101 ∷ 116 ∷ 0 ∷ [] }

abbrev data_sent : Datagram
data_sent = record { dir = In; local = 40000; host = codes "192.0.2.7"; remote = 41000; payload = 0 ∷ 3 ∷ 0 ∷ 1 ∷ 104 ∷ 105 ∷ [] }

abbrev ack : Datagram
ack = record { dir = Out; local = 40000; host = codes "192.0.2.7"; remote = 41000; payload = 0 ∷ 4 ∷ 0 ∷ 1 ∷ [] }

request_said : SaysDatagram Two request_line request
unfolding digits decode_pairs
request_said = record {
  local = codes "40000";
  remote = codes "69";
  digits = codes "000161006f6374657400";
  cut = refl;
  local_port = ((lit≤ tt, lit≤ tt), refl);
  host = host_is (codes "tftp.example") (lit≤ tt) (lit≤ tt) refl;
  remote_port = ((lit≤ tt, lit≤ tt), refl);
  payload = inr (λ e. absurd (omega (arith, ap length e)), refl);
  fits = lit≤ tt;
}

data_said : SaysDatagram Two data_line data_sent
unfolding digits decode_pairs
data_said = record {
  local = codes "40000";
  remote = codes "41000";
  digits = codes "000300016869";
  cut = refl;
  local_port = ((lit≤ tt, lit≤ tt), refl);
  host = host_is (codes "192.0.2.7") (lit≤ tt) (lit≤ tt) refl;
  remote_port = ((lit≤ tt, lit≤ tt), refl);
  payload = inr (λ e. absurd (omega (arith, ap length e)), refl);
  fits = lit≤ tt;
}

ack_said : SaysDatagram Two ack_line ack
unfolding digits decode_pairs
ack_said = record {
  local = codes "40000";
  remote = codes "41000";
  digits = codes "00040001";
  cut = refl;
  local_port = ((lit≤ tt, lit≤ tt), refl);
  host = host_is (codes "192.0.2.7") (lit≤ tt) (lit≤ tt) refl;
  remote_port = ((lit≤ tt, lit≤ tt), refl);
  payload = inr (λ e. absurd (omega (arith, ap length e)), refl);
  fits = lit≤ tt;
}

abbrev after : List (List ℕ)
after = codes "# by name" ∷ codes "end client" ∷ codes "service 69" ∷ request_line ∷ data_line ∷ ack_line ∷ []

says : SaysDatagrams Two (codes "tftp-capture 2" ∷ after) worked_header named_datagrams
unfolding digits
says = record {
  after_head = after;
  at_end = 3;
  at_service = 4;
  bodies = (5, request_line) ∷ (6, data_line) ∷ (7, ack_line) ∷ [];
  begins = refl;
  are = refl;
  port = (lit≤ tt, lit≤ tt);
  plain = refl;
  each = ((refl, request_said), ((refl, data_said), ((refl, ack_said), tt)));
}

narrow_lines : (lines : List (List ℕ)) → AllByRecursion (λ (l : List ℕ). length l ≤ 131116) lines → All (λ (l : List ℕ). length l ≤ 131116) lines
narrow_lines [] h = All-nil (λ (l : List ℕ). length l ≤ 131116)
narrow_lines (l ∷ ls) h = All-cons (λ (l : List ℕ). length l ≤ 131116) l ls h.0 (narrow_lines ls h.1)

pub named_is_read : IsCapture named_text worked_header named_datagrams
unfolding digits
named_is_read = (
  Two,
  codes "tftp-capture 2" ∷ codes "# by name" ∷ codes "end client" ∷ codes "service 69" ∷ request_line ∷ data_line ∷ ack_line ∷ codes "total 3" ∷ [],
  record {
    divided = refl;
    says = (codes "tftp-capture 2" ∷ after, refl, says);
    short = lit≤ tt;
    narrow = narrow_lines (codes "tftp-capture 2" ∷ after ++ codes "total 3" ∷ []) (lit≤ tt, (lit≤ tt, (lit≤ tt, (lit≤ tt, (lit≤ tt, (lit≤ tt, (lit≤ tt, (lit≤ tt, tt))))))));
    narrow_rest = lit≤ tt;
    last = λ o. refl;
  },
)
