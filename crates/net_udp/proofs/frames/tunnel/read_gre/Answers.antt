use Rattle.std.proofs.Common.{sym, ◌∙◌}
use Rattle.net_udp.proofs.FramesLemmas.Tunnels.{gre_read}
use Rattle.net_udp.proofs.frames.tunnel.read_gre.Goals as goal

pub returns : goal.returns
returns c =
    gre_read c.args.bytes.now c.split_at.result.1.now c.pair_at.result c.gre_size-size.result c.has_number.result c.args.direction c.read_of_type.result c.if-bytes-lt4.false (sym c.is_gre_read.ensures ∙ c.if-not-is_gre_read.false) c.gre_size-size.ensures.is
    c.if-bytes-size.false c.pair_at.ensures c.has_number.ensures c.split_at.ensures.back c.read_of_type.ensures
