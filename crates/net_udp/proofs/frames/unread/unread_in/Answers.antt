use Rattle.net_udp.proofs.FramesLemmas.Unread.{in_ipv4, in_ipv6}
use Rattle.net_udp.proofs.frames.unread.unread_in.Goals as goal

pub returns-in-Ipv4 : goal.returns-in-Ipv4
returns-in-Ipv4 c = in_ipv4 c.args.network c.args.bytes.now c.held-content.result.now c.unread_in_ipv4.result c.in-Ipv4.is (c.has_header.ensures.0 c.if-not-has_header.false) c.held-content.ensures c.unread_in_ipv4.ensures

pub returns-in-Ipv6 : goal.returns-in-Ipv6
returns-in-Ipv6 c = in_ipv6 c.args.network c.args.bytes.now c.held-content.result.now c.unread_over.result c.in-Ipv6.is (c.has_header.ensures.0 c.if-not-has_header.false) c.held-content.ensures c.unread_over.ensures
