use Rattle.std.proofs.Common.{◌≡◌, ℕ, ◌+◌, ◌<◌, false, nat_eq, List, [], ◌∷◌, length, get_or, sym, arith}
use Rattle.std.proofs.lemmas.Bool.{false≢true}
use Rattle.std.proofs.lemmas.Int.Digits.{digits_value_more, digits_more}
use Rattle.std.proofs.lemmas.List.{take_all}
use Rattle.tftp_packet.proofs.Values.{value_grows, no_digit, digit_is}
use Rattle.tftp_packet.proofs.value.parse_number.Goals as goal

pub returns-then-not-is_ascii_digit : goal.returns-then-not-is_ascii_digit
returns-then-not-is_ascii_digit c = λ h. no_digit c.args.text.now c.loop-byte.byte-index c.loop-byte-test.true (sym c.if-not-is_ascii_digit.ensures.value) h.0

pub returns-in_err-checked_mul : goal.returns-in_err-checked_mul
returns-in_err-checked_mul c = rw c.from_residual.ensures (λ h.
    let grows = value_grows c.args.text.now (c.loop-byte.byte-index + 1) in
    let more = digits_value_more 10 c.args.text.now c.loop-byte.byte-index c.loop-byte-test.true in
    let so_far = c.loop-byte.invariant.1 in
    c.in_err-checked_mul.ensures (omega (arith, h.1)))

pub returns-in_err-number : goal.returns-in_err-number
returns-in_err-number c = rw c.from_residual-in_err-number.ensures (λ h.
    let byte = get_or c.args.text.now c.loop-byte.byte-index 0 in
    let grows = value_grows c.args.text.now (c.loop-byte.byte-index + 1) in
    let more = digits_value_more 10 c.args.text.now c.loop-byte.byte-index c.loop-byte-test.true in
    let digit = digit_is byte c.if-not-is_ascii_digit.ensures.cases.0 c.if-not-is_ascii_digit.ensures.cases.1 in
    let so_far = c.loop-byte.invariant.1 in
    c.in_err-number.ensures (omega (arith, h.1, c.in_ok-checked_mul.ensures, c.from.ensures)))

pub loop-byte-preserved : goal.loop-byte-preserved
loop-byte-preserved c =
    let byte = get_or c.args.text.now c.loop-byte.byte-index 0 in
    let more = digits_value_more 10 c.args.text.now c.loop-byte.byte-index c.loop-byte-test.true in
    let digit = digit_is byte c.if-not-is_ascii_digit.ensures.cases.0 c.if-not-is_ascii_digit.ensures.cases.1 in
    let so_far = c.loop-byte.invariant.1 in
    (digits_more 10 c.args.text.now c.loop-byte.byte-index c.loop-byte-test.true c.loop-byte.invariant.0 c.if-not-is_ascii_digit.ensures.bound, omega (arith, c.in_ok-number.ensures.1, c.in_ok-checked_mul.ensures, c.from.ensures), omega (arith, c.in_ok-number.ensures))

not_none : (text : List ℕ) → false ≡ nat_eq (length text) 0 → 0 < length text
not_none [] test = absurd (false≢true test)
not_none (b ∷ text) test = omega arith

pub returns-else-is_empty : goal.returns-else-is_empty
returns-else-is_empty c =
    let invariant = rw (take_all c.loop-byte.byte-index c.args.text.now c.loop-byte-test.false) at c.loop-byte.invariant in
    (((not_none c.args.text.now c.if-is_empty.ensures, invariant.0), omega (arith, invariant.1, invariant.2)), invariant.1)
