use Rattle.std.proofs.Common.{sym, ap, ◌∙◌, Some, arith, codes}
use Rattle.tftp_packet.specs.{shown}
use Rattle.tftp_nego.proofs.Numbers.{windowsize_range}
use Rattle.tftp_nego.proofs.agreed.Agreed.windowsize.Goals as goal

pub overflow_cast-result : goal.overflow_cast-result
overflow_cast-result c =
    let bounds = windowsize_range c.in-Some-Num.size (c.self.invariant (codes "windowsize") c.in-Some-Num.size (sym c.in-Some-Num.ensures ∙ ap (λ v. Some (shown v)) c.in-Some-Num.field-0-is)) in omega arith

pub returns-in-Some-Num-clause-sized : goal.returns-in-Some-Num-clause-sized
returns-in-Some-Num-clause-sized c =
    let bounds = windowsize_range c.in-Some-Num.size (c.self.invariant (codes "windowsize") c.in-Some-Num.size (sym c.in-Some-Num.ensures ∙ ap (λ v. Some (shown v)) c.in-Some-Num.field-0-is)) in bounds.0
