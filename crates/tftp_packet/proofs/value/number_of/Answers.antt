use Rattle.std.proofs.Common.{inl, inr, Some, ap, ◌∙◌, arith}
use Rattle.tftp_packet.proofs.Values.{unknown_name, no_numeral, out_of_range, known_number}
use Rattle.tftp_packet.specs.{lower}
use Rattle.tftp_packet.proofs.value.number_of.Goals as goal

pub returns-in_err-least : goal.returns-in_err-least
returns-in_err-least c = rw c.from_residual.ensures (unknown_name (lower c.args.name.now) c.args.text.now c.in_err-least.ensures)

pub returns-in_err-number : goal.returns-in_err-number
returns-in_err-number c = rw c.from_residual-in_err-number.ensures (no_numeral (lower c.args.name.now) c.args.text.now (c.in_ok-least.least, c.in_ok-least.greatest) c.in_ok-least.ensures c.in_err-number.ensures)

pub returns-then-number-greatest : goal.returns-then-number-greatest
returns-then-number-greatest c =
    let e = c.in_ok-number.ensures.1 in
    ap Some e ∙ known_number (lower c.args.name.now) c.args.text.now (c.in_ok-least.least, c.in_ok-least.greatest) c.in_ok-least.ensures c.in_ok-number.ensures.0.0 (omega (arith, e)) (omega (arith, e))

pub returns-else-least-number : goal.returns-else-least-number
returns-else-least-number c =
    let e = c.in_ok-number.ensures.1 in
    out_of_range (lower c.args.name.now) c.args.text.now (c.in_ok-least.least, c.in_ok-least.greatest) c.in_ok-least.ensures
    (λ low high. elim c.else-least-number.either [ inl over ↦ omega (arith, e, over) | inr under ↦ omega (arith, e, under) ])
