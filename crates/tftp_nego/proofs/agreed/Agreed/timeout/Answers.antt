use Rattle.std.proofs.Common.{sym, ap, ◌∙◌, Some, arith, codes}
use Rattle.tftp_packet.specs.{shown}
use Rattle.tftp_nego.proofs.Numbers.{timeout_range}
use Rattle.tftp_nego.proofs.agreed.Agreed.timeout.Goals as goal

pub overflow_cast-result : goal.overflow_cast-result
overflow_cast-result c =
    let bounds = timeout_range c.in-Some-Num.seconds (c.self.invariant (codes "timeout") c.in-Some-Num.seconds (sym c.in-Some-Num.ensures ∙ ap (λ v. Some (shown v)) c.in-Some-Num.field-0-is)) in omega arith
