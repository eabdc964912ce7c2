use Rattle.std.proofs.Common.{sym, ap, ◌∙◌, Some, arith, codes}
use Rattle.tftp_packet.specs.{shown}
use Rattle.tftp_nego.proofs.Numbers.{blksize_range}
use Rattle.tftp_nego.proofs.agreed.Agreed.blksize.Goals as goal

pub overflow_cast-result : goal.overflow_cast-result
overflow_cast-result c =
    let bounds = blksize_range c.in-Some-Num.size (c.self.invariant (codes "blksize") c.in-Some-Num.size (sym c.in-Some-Num.ensures ∙ ap (λ v. Some (shown v)) c.in-Some-Num.field-0-is)) in omega arith

pub returns-in-Some-Num-clause-sized : goal.returns-in-Some-Num-clause-sized
returns-in-Some-Num-clause-sized c =
    let bounds = blksize_range c.in-Some-Num.size (c.self.invariant (codes "blksize") c.in-Some-Num.size (sym c.in-Some-Num.ensures ∙ ap (λ v. Some (shown v)) c.in-Some-Num.field-0-is)) in bounds
