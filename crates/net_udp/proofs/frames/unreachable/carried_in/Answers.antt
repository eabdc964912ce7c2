use Rattle.std.proofs.Common.{sym, ◌∙◌}
use Rattle.net_udp.specs.Frames.{reached}
use Rattle.net_udp.proofs.FramesLemmas.Unreached.{another_protocol, in_part}
use Rattle.net_udp.proofs.frames.unreachable.carried_in.Goals as goal
use Rattle.net_udp.proofs.frames.unreachable.carried_in.Goals.{then-upper-protocol-via-then-upper-protocol, then-upper-protocol-via-else-upper-protocol+then-is_some}

pub returns-then-upper-protocol : goal.returns-then-upper-protocol
returns-then-upper-protocol c =
    let reaches = c.in-Some.ensures in
    elim c.then-upper-protocol.branch [
      | then-upper-protocol-via-then-upper-protocol w ↦ another_protocol c.args.network c.args.bytes.now c.args.protocol (reached c.in-Some.upper) reaches w.if-upper-protocol.true
      | then-upper-protocol-via-else-upper-protocol+then-is_some w ↦ in_part c.args.network c.args.bytes.now c.args.protocol (reached c.in-Some.upper) reaches (sym w.is_some.ensures ∙ w.if-is_some.true)
    ]
