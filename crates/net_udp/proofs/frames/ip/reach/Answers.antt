use Rattle.net_udp.proofs.FramesLemmas.Uppers.{in_ipv4, over_extensions}
use Rattle.net_udp.proofs.frames.ip.reach.Goals as goal

pub returns-in-Ipv6 : goal.returns-in-Ipv6
returns-in-Ipv6 c = over_extensions c.args.network c.args.bytes.now c.held-content.result.now c.skip_extensions.result c.in-Ipv6.is c.held-content.ensures c.skip_extensions.ensures

pub returns-in-Ipv4 : goal.returns-in-Ipv4
returns-in-Ipv4 c = in_ipv4 c.args.network c.args.bytes.now c.held-content.result.now c.reach_in_ipv4.result c.in-Ipv4.is c.held-content.ensures c.reach_in_ipv4.ensures
