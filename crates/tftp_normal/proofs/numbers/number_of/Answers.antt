use Rattle.std.proofs.Common.{◌≡◌, ◌+◌, ◌-◌, ◌%◌, subst, sym, arith}
use Rattle.tftp_packet.specs.Rounds.{first_of, number_of}
use Rattle.tftp_normal.proofs.ByNumber.{number_by_one, number_by_zero}
use Rattle.tftp_normal.proofs.numbers.number_of.Goals as goal

pub returns-in-Some-Zero : goal.returns-in-Some-Zero
returns-in-Some-Zero c =
    rw c.in-Some-Zero.is (subst (λ r. c.args.block % 65536 ≡ number_of (first_of r) c.args.block) (sym (rw c.in-Some-Zero.is at c.in-Some-Zero.field-0-is)) (number_by_zero c.args.block))

pub returns-else-block-eq0 : goal.returns-else-block-eq0
returns-else-block-eq0 c =
    rw c.in-Some-One.is
    (subst (λ r. (c.args.block - 1) % 65535 + 1 ≡ number_of (first_of r) c.args.block) (sym (rw c.in-Some-One.is at c.in-Some-One.field-0-is))
    (number_by_one c.args.block (omega (arith, c.if-block-eq0.false))))
