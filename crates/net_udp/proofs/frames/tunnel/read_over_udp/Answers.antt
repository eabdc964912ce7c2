use Rattle.std.proofs.Common.{sym, ◌∙◌}
use Rattle.net_udp.proofs.FramesLemmas.Tunnels.{udp_read}
use Rattle.net_udp.proofs.frames.tunnel.read_over_udp.Goals as goal

pub returns : goal.returns
returns c =
    udp_read c.args.bytes.now c.payload_of-payload.result.now c.split_at.result.1.now c.over_udp_type-kind.result c.over_udp_size-size.result c.args.direction c.read_typed.result c.if-bytes-lt8.false c.payload_of-payload.ensures c.over_udp_size-size.ensures.is
    c.if-payload-size.false c.over_udp_type-kind.ensures (sym c.is_type_in_gre.ensures ∙ c.if-not-is_type_in_gre.false) c.split_at.ensures.back c.read_typed.ensures
