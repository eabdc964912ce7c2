use Rattle.std.proofs.Common.{rules}
use Rattle.net_udp.specs.Frames.{linked}
use Rattle.net_udp.proofs.FramesLemmas.Unread.{found_inside, none_carried, none_without_ip}
use Rattle.net_udp.proofs.frames.unread.unread_inside.Goals as goal

pub returns-in_default : goal.returns-in_default
returns-in_default c = none_carried c.args.link c.args.frame.now c.in_default.ensures

pub returns-in_default-network : goal.returns-in_default-network
returns-in_default-network c = none_without_ip c.args.link c.args.frame.now (linked c.in-Some.carried) c.in-Some.ensures (search rules)

pub returns : goal.returns
returns c = found_inside c.args.link c.args.frame.now (linked c.in-Some.carried) c.in-Some-network.network c.unread_in.result c.in-Some.ensures c.in-Some-network.is c.unread_in.ensures
