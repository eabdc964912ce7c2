use Rattle.net_udp.specs.Frames.{linked}
use Rattle.net_udp.proofs.FramesLemmas.Tunnels.{carried_over, not_linked}
use Rattle.net_udp.proofs.frames.tunnel.read_carried.Goals as goal

pub returns-in_default : goal.returns-in_default
returns-in_default c = not_linked c.args.link c.args.frame.now c.in_default.ensures

pub returns : goal.returns
returns c = carried_over c.args.link c.args.frame.now (linked c.in-Some.outer) c.open_tunnels.result c.in-Some.ensures c.open_tunnels.ensures
