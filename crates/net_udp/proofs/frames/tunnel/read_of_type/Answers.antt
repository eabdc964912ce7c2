use Rattle.std.proofs.Common.{sym, ◌∙◌}
use Rattle.net_udp.proofs.FramesLemmas.Tunnels.{mirror_here, of_type_read}
use Rattle.net_udp.proofs.frames.tunnel.read_of_type.Goals as goal

pub returns-then-is_mirror : goal.returns-then-is_mirror
returns-then-is_mirror c = mirror_here c.args.kind c.args.is_counted c.args.bytes.now c.args.direction c.read_mirror.result (sym c.is_mirror.ensures ∙ c.if-is_mirror.true) c.read_mirror.ensures

pub returns-then-is_type_in_gre : goal.returns-then-is_type_in_gre
returns-then-is_type_in_gre c =
    of_type_read c.args.kind c.args.is_counted c.args.bytes.now c.args.direction c.read_typed.result (sym c.is_mirror.ensures ∙ c.if-is_mirror.false) (sym c.is_type_in_gre.ensures ∙ c.if-is_type_in_gre.true) c.read_typed.ensures
