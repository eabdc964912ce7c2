use Rattle.net_udp.specs.Frames.{linked}
use Rattle.net_udp.proofs.FramesLemmas.Tunnels.{opened_by}
use Rattle.net_udp.proofs.frames.tunnel.opened.Goals as goal

pub returns : goal.returns
returns c = opened_by (linked c.args.carried) c.in-Some.network c.tunnel_of.result c.in-Some.is c.tunnel_of.ensures
