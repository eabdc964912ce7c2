use Rattle.std.proofs.Common.{sym, ◌∙◌}
use Rattle.net_udp.specs.Frames.{reached}
use Rattle.net_udp.proofs.FramesLemmas.Tunnels.{another_protocol}
use Rattle.net_udp.proofs.frames.tunnel.tunnel_of.Goals as goal

pub returns-else-is_opened : goal.returns-else-is_opened
returns-else-is_opened c = another_protocol c.args.network c.args.bytes.now (reached c.in-Some.upper) c.in-Some.ensures (sym c.is_opened.ensures ∙ c.if-is_opened.false)
