use Rattle.std.proofs.Common.{◌+◌, ◌≤◌, arith}
use Rattle.std.proofs.lemmas.List.{take_rest}
use Rattle.tftp_capture.proofs.Skips.{begins_more}
use Rattle.tftp_capture.proofs.lines.silent_lines.Goals as goal

pub lines-preserved : goal.lines-preserved
lines-preserved c =
    let size = c.silent_line-size.result in
    let narrow : size ≤ c.args.longest + 1 = omega (arith, c.if-longest-size.false) in
    let stands = rw take_rest at (c.silent_line-size.ensures (omega (arith, c.if-size-eq0.false))) in (
      begins_more c.args.longest c.args.bytes.now c.lines.at c.lines.count size c.lines.invariant.0 stands narrow,
      omega (arith, c.lines.invariant.1, c.if-size-eq0.false),
      omega (arith, c.lines.invariant.2, c.if-room-at.false),
    )
