-- A capture of blocks past the end of a round, line by line.
use Rattle.std.proofs.Common.{◌≡◌, lit≤, inl, ℕ, ◌+◌, ◌*◌, ◌<◌, max, true, ◌++◌, List, [], ◌∷◌, Option, None, Some, codes, decimal, refl, sym, subst}
use Rattle.std.specs.Fmt.{digits}
use Rattle.tftp_packet.specs.Rounds.{position_of}
use Rattle.tftp_packet.specs.{Message, Rollover, Zero, One, Spells}
use Rattle.tftp_packet.specs.Hosts.{Datagram, Header}
use Rattle.tftp_capture.specs.{worked_header}
use Rattle.law_model.specs.Rules.{is_of_transfer, route_of}
use Rattle.law_rollover.specs.{AreUnrolled}
use Rattle.law_rollover.proofs.Unrolling.{data_unrolled}
use Rattle.tftp_judge.specs.{header_by}
use Rattle.tftp_commands.specs.{AreLines, IsDatagramLine, IsHighBy, beside, message_text, one_byte, past_the_round, read_as, shown_by_number, shown_by_one, shown_by_zero, since_request}
use Rattle.tftp_commands.proofs.HighestRead.{high_more, none_high}

spelled : (x y : ℕ) → x < 256 → y < 256 → Spells (0 ∷ 3 ∷ x ∷ y ∷ 7 ∷ []) (Message.Data (256 * x + y) (7 ∷ []))
spelled x y first second = ((lit≤ tt, (lit≤ tt, (second, (lit≤ tt, tt)))), (x, y, (second, refl), refl))

line_of : (rollover : Option Rollover) (high number x y : ℕ) → x < 256 → y < 256
    → IsDatagramLine rollover high number (one_byte x y)
    (decimal number ++ codes " " ++ codes "in" ++ codes " " ++ (message_text (Message.Data (256 * x + y) (7 ∷ [])) ++ beside rollover high (Message.Data (256 * x + y) (7 ∷ []))) ++ codes "\n")
line_of rollover high number x y first second = (_, inl (Message.Data (256 * x + y) (7 ∷ []), spelled x y first second, refl), refl)

-- ---- without a rollover

pub by_number : AreLines None worked_header [] (past_the_round 0) shown_by_number
unfolding digits
by_number = (
  0,
  refl,
  codes "1 in DATA 65535 1\n",
  _,
  line_of None 0 1 255 255 (lit≤ tt) (lit≤ tt),
  (
    0,
    refl,
    codes "2 in DATA 0 1\n",
    _,
    line_of None 0 2 0 0 (lit≤ tt) (lit≤ tt),
    (0, refl, codes "3 in DATA 1 1\n", _, line_of None 0 3 0 1 (lit≤ tt) (lit≤ tt), (0, refl, codes "4 in DATA 65535 1\n", [], line_of None 0 4 255 255 (lit≤ tt) (lit≤ tt), refl, refl), refl),
    refl,
  ),
  refl,
)

-- ---- by the highest block

module _ (r : Rollover) where
  abbrev header : Header
  header = header_by (Some r) worked_header

  abbrev high_after : (earlier : List Datagram) (high x y : ℕ) (is : IsHighBy r header earlier high) → since_request header (one_byte x y ∷ earlier) ≡ one_byte x y ∷ since_request header earlier
      → is_of_transfer (route_of header is.0 (read_as r high (one_byte x y))) ≡ true → x < 256 → y < 256 → IsHighBy r header (one_byte x y ∷ earlier) (max high (position_of r high (256 * x + y)))
  high_after earlier high x y is since one first second =
      let now = read_as r high (one_byte x y) in (
        now ∷ is.0,
        subst (λ (ds : List Datagram). AreUnrolled r header ds (now ∷ is.0)) (sym since) ((high, is.2, refl), is.1),
        high_more header is.0 now high (position_of r high (256 * x + y)) (7 ∷ []) is.2 one (data_unrolled r high (256 * x + y) (7 ∷ []) (0 ∷ 3 ∷ x ∷ y ∷ 7 ∷ []) (spelled x y first second)),
      )

  abbrev none_after : IsHighBy r header [] 0
  none_after = ([], tt, none_high)

-- by 0
abbrev zero_1 : IsHighBy Zero (header Zero) (one_byte 255 255 ∷ []) 65535
zero_1 = high_after Zero [] 0 255 255 (none_after Zero) refl refl (lit≤ tt) (lit≤ tt)

abbrev zero_2 : IsHighBy Zero (header Zero) (one_byte 0 0 ∷ one_byte 255 255 ∷ []) 65536
zero_2 = high_after Zero (one_byte 255 255 ∷ []) 65535 0 0 zero_1 refl refl (lit≤ tt) (lit≤ tt)

zero_3 : IsHighBy Zero (header Zero) (one_byte 0 1 ∷ one_byte 0 0 ∷ one_byte 255 255 ∷ []) 65537
zero_3 = high_after Zero (one_byte 0 0 ∷ one_byte 255 255 ∷ []) 65536 0 1 zero_2 refl refl (lit≤ tt) (lit≤ tt)

-- by 1
abbrev one_1 : IsHighBy One (header One) (one_byte 255 255 ∷ []) 65535
one_1 = high_after One [] 0 255 255 (none_after One) refl refl (lit≤ tt) (lit≤ tt)

abbrev one_2 : IsHighBy One (header One) (one_byte 0 1 ∷ one_byte 255 255 ∷ []) 65536
one_2 = high_after One (one_byte 255 255 ∷ []) 65535 0 1 one_1 refl refl (lit≤ tt) (lit≤ tt)

one_3 : IsHighBy One (header One) (one_byte 0 2 ∷ one_byte 0 1 ∷ one_byte 255 255 ∷ []) 65537
one_3 = high_after One (one_byte 0 1 ∷ one_byte 255 255 ∷ []) 65536 0 2 one_2 refl refl (lit≤ tt) (lit≤ tt)

-- ---- the lines

pub by_zero : AreLines (Some Zero) worked_header [] (past_the_round 0) shown_by_zero
unfolding digits
by_zero = (
  0,
  none_after Zero,
  codes "1 in DATA 65535 1\n",
  _,
  line_of (Some Zero) 0 1 255 255 (lit≤ tt) (lit≤ tt),
  (
    65535,
    zero_1,
    codes "2 in DATA 0 1 block 65536\n",
    _,
    line_of (Some Zero) 65535 2 0 0 (lit≤ tt) (lit≤ tt),
    (
      65536,
      zero_2,
      codes "3 in DATA 1 1 block 65537\n",
      _,
      line_of (Some Zero) 65536 3 0 1 (lit≤ tt) (lit≤ tt),
      (65537, zero_3, codes "4 in DATA 65535 1\n", [], line_of (Some Zero) 65537 4 255 255 (lit≤ tt) (lit≤ tt), refl, refl),
      refl,
    ),
    refl,
  ),
  refl,
)

pub by_one : AreLines (Some One) worked_header [] (past_the_round 1) shown_by_one
unfolding digits
by_one = (
  0,
  none_after One,
  codes "1 in DATA 65535 1\n",
  _,
  line_of (Some One) 0 1 255 255 (lit≤ tt) (lit≤ tt),
  (
    65535,
    one_1,
    codes "2 in DATA 1 1 block 65536\n",
    _,
    line_of (Some One) 65535 2 0 1 (lit≤ tt) (lit≤ tt),
    (
      65536,
      one_2,
      codes "3 in DATA 2 1 block 65537\n",
      _,
      line_of (Some One) 65536 3 0 2 (lit≤ tt) (lit≤ tt),
      (65537, one_3, codes "4 in DATA 65535 1\n", [], line_of (Some One) 65537 4 255 255 (lit≤ tt) (lit≤ tt), refl, refl),
      refl,
    ),
    refl,
  ),
  refl,
)
