use Rattle.std.proofs.Common.{sym, ◌∙◌}
use Rattle.std.proofs.lemmas.Result.{err_from_is_err_and}
use Rattle.net_udp.specs.Frames.{reached}
use Rattle.net_udp.proofs.FramesLemmas.FaultOrder.{length_first}
use Rattle.net_udp.proofs.frames.ip.read_ip.Goals as goal

pub returns-in_err-check_length-2 : goal.returns-in_err-check_length-2
returns-in_err-check_length-2 c =
    let p = err_from_is_err_and c.from_residual-in_err-check_length-2.result c.from_residual-in_err-check_length-2.ensures.1 in
    rw (p.1, p.2) (length_first c.args.network c.args.bytes.now (reached c.in-Some.upper) c.in_err-check_length-2.field-0.0 (c.has_header.ensures.0 c.if-not-has_header.false) c.in-Some.ensures (sym c.is_udp.ensures ∙ c.if-not-is_udp.false) c.in_err-check_length-2.ensures)
