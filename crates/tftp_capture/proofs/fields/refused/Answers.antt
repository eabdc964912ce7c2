use Rattle.std.proofs.Common.{◌≢◌, length, inl, inr, sym, ◌∙◌, arith}
use Rattle.std.proofs.lemmas.Bool.Decides.{nat_tests}
use Rattle.tftp_capture.proofs.Payloads.{no_payload, some_payload}
use Rattle.tftp_capture.proofs.fields.refused.Goals as goal
use Rattle.tftp_capture.proofs.fields.refused.Goals.{then-is_empty-via-then-is_empty, then-is_empty-via-else-is_empty+then-digits-eq1, then-is_empty-via-else-is_empty+else-digits-eq1+then-not-are_digits}

pub returns-then-is_empty : goal.returns-then-is_empty
returns-then-is_empty c = λ other payload spelled.
    no_payload c.args.digits.now payload other spelled
    (elim c.then-is_empty.branch [
      | then-is_empty-via-then-is_empty w ↦ inl (grind (arith, nat_tests))
      | then-is_empty-via-else-is_empty+then-digits-eq1 w ↦ inr (inl w.if-digits-eq1.true)
      | then-is_empty-via-else-is_empty+else-digits-eq1+then-not-are_digits w ↦ inr (inr (sym w.are_digits.ensures ∙ w.if-not-are_digits.true))
    ])

pub returns-then-digits-gt-LONGEST_PAYLOAD : goal.returns-then-digits-gt-LONGEST_PAYLOAD
returns-then-digits-gt-LONGEST_PAYLOAD c = λ other.
    let some : length c.args.digits.now ≢ 0 = grind (arith, nat_tests) in
    let found = some_payload c.args.digits.now some c.if-digits-eq1.false (sym c.are_digits.ensures ∙ c.if-not-are_digits.false) in
    (found.0, found.1, omega (arith, found.2, c.if-digits-gt-LONGEST_PAYLOAD.true))

pub returns : goal.returns
returns c = λ other.
    let some : length c.args.digits.now ≢ 0 = grind (arith, nat_tests) in
    let found = some_payload c.args.digits.now some c.if-digits-eq1.false (sym c.are_digits.ensures ∙ c.if-not-are_digits.false) in
    (found.0, found.1, omega (arith, found.2, c.if-digits-gt-LONGEST_PAYLOAD.false))
