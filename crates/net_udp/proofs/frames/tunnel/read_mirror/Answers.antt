use Rattle.std.proofs.Common.{sym, ◌∙◌}
use Rattle.net_udp.proofs.FramesLemmas.Tunnels.{mirror_read}
use Rattle.net_udp.proofs.frames.tunnel.read_mirror.Goals as goal

pub returns : goal.returns
returns c =
    mirror_read c.args.kind c.args.is_counted c.args.bytes.now c.split_at.result.1.now c.mirror_size-size.result c.args.direction c.read_typed.result c.requires c.mirror_size-size.ensures c.if-bytes-size.false
    (sym c.is_mirror_read.ensures ∙ c.if-not-is_mirror_read.false) c.split_at.ensures.back c.read_typed.ensures
