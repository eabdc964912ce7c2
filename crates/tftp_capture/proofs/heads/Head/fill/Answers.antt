use Rattle.std.proofs.Common.{sym, ◌∙◌}
use Rattle.tftp_capture.proofs.HeadLines.{begins_with_datagram, filled_payload}
use Rattle.tftp_capture.proofs.heads.Head.fill.Goals as goal

pub returns-then-filled : goal.returns-then-filled
returns-then-filled c =
    let digits = c.in_ok-digits.digits.now in
    let filled = filled_payload digits _ c.fill_payload.result c.fill_payload.ensures (sym c.if-filled.true ∙ c.is_ok-filled.ensures.value) in
    rw (c.fill_rest.ensures, ← c.self.view_is) (begins_with_datagram _ c.self.invariant.head digits c.args.ahead.now _ (rw (← c.self.view_is) at c.in_ok-digits.ensures) filled.0 filled.1)
