use Rattle.std.proofs.Common.{◌≡◌, ◌≤◌, arith, subst, sym, ◌∙◌}
use Rattle.tftp_packet.specs.Rounds.{greatest_of}
use Rattle.law_end.specs.{CanBeNumbered, CanBeWritten, blocks_of}
use Rattle.tftp_normal.proofs.ByNumber.{by_rollover}
use Rattle.tftp_normal.proofs.normal.normal_capture.Goals as goal

pub of-transfer-requires-clause-can : goal.of-transfer-requires-clause-can
of-transfer-requires-clause-can g c = let e = c.into_parts-request.ensures in subst CanBeNumbered (sym e.parts) e.can

pub write_normal-requires : goal.write_normal-requires
write_normal-requires g c =
    let e = c.into_parts-request.ensures in
    let same : c.of-transfer.result ≡ c.args.meaning = c.of-transfer.ensures ∙ e.parts in
    let few : blocks_of c.args.meaning ≤ greatest_of c.args.rollover = omega (arith, e.count, c.greatest_block.ensures, c.if-blocks-greatest_block.false) in
    record { can = subst (CanBeWritten c.args.rollover) (sym same) (by_rollover c.args.rollover c.args.meaning e.can few) }
