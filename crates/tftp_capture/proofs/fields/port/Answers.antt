use Rattle.std.proofs.Common.{◌<◌, length, get_or, sym, arith}
use Rattle.std.proofs.lemmas.Bool.Decides.{nat_tests}
use Rattle.std.proofs.lemmas.Int.Digits.{digits_value_more, digits_more}
use Rattle.std.proofs.lemmas.List.{take_all}
use Rattle.tftp_packet.proofs.Values.{no_digit, digit_is}
use Rattle.tftp_capture.proofs.Ports.{few_digits, port_is_numeral, port_first, port_short, spells_port}
use Rattle.tftp_capture.proofs.fields.port.Goals as goal
use Rattle.tftp_capture.proofs.fields.port.Goals.{then-is_empty-via-then-is_empty, then-is_empty-via-else-is_empty+then-text-gt-MOST_DIGITS, then-is_empty-via-else-is_empty+else-text-gt-MOST_DIGITS+then-text-eq48}

pub returns-then-is_empty : goal.returns-then-is_empty
returns-then-is_empty c = λ port h.
    let first = port_first c.args.text.now port h in
    let some = (port_is_numeral c.args.text.now port h).0.0 in
    let short = port_short c.args.text.now port h in
    elim c.then-is_empty.branch [
      | then-is_empty-via-then-is_empty w ↦ grind (arith, nat_tests)
      | then-is_empty-via-else-is_empty+then-text-gt-MOST_DIGITS w ↦ absurd (omega (arith, short, w.if-text-gt-MOST_DIGITS.true))
      | then-is_empty-via-else-is_empty+else-text-gt-MOST_DIGITS+then-text-eq48 w ↦ absurd (omega (arith, first, w.if-text-eq48.true))
    ]

pub returns-then-not-is_ascii_digit : goal.returns-then-not-is_ascii_digit
returns-then-not-is_ascii_digit c = λ port h.
    no_digit c.args.text.now c.loop-byte.byte-index c.loop-byte-test.true (sym c.if-not-is_ascii_digit.ensures.value) (port_is_numeral c.args.text.now port h).0

pub overflow_mul-number : goal.overflow_mul-number
overflow_mul-number c =
    let few = few_digits c.args.text.now c.loop-byte.byte-index c.loop-byte.invariant.0 c.loop-byte-test.true (omega arith) in
    omega (arith, few, c.loop-byte.invariant.1)

pub overflow_add-number : goal.overflow_add-number
overflow_add-number c =
    let few = few_digits c.args.text.now c.loop-byte.byte-index c.loop-byte.invariant.0 c.loop-byte-test.true (omega arith) in
    omega (arith, few, c.loop-byte.invariant.1, c.from.ensures)

pub loop-byte-preserved : goal.loop-byte-preserved
loop-byte-preserved c =
    let byte = get_or c.args.text.now c.loop-byte.byte-index 0 in
    let more = digits_value_more 10 c.args.text.now c.loop-byte.byte-index c.loop-byte-test.true in
    let digit = digit_is byte c.if-not-is_ascii_digit.ensures.cases.0 c.if-not-is_ascii_digit.ensures.cases.1 in
    let so_far = c.loop-byte.invariant.1 in
    (digits_more 10 c.args.text.now c.loop-byte.byte-index c.loop-byte-test.true c.loop-byte.invariant.0 c.if-not-is_ascii_digit.ensures.bound, omega (arith, more, digit, so_far, c.from.ensures))

pub returns-then-number-from : goal.returns-then-number-from
returns-then-number-from c = λ port h.
    let value = (port_is_numeral c.args.text.now port h).1 in
    let invariant = rw (take_all c.loop-byte.byte-index c.args.text.now c.loop-byte-test.false) at c.loop-byte.invariant in
    omega (arith, h.0.1, value, invariant.1)

pub returns : goal.returns
returns c =
    let invariant = rw (take_all c.loop-byte.byte-index c.args.text.now c.loop-byte-test.false) at c.loop-byte.invariant in
    let some : 0 < length c.args.text.now = grind (arith, nat_tests) in
    spells_port c.args.text.now c.loop-byte.number invariant.0 invariant.1 (omega arith) some c.if-text-eq48.false
