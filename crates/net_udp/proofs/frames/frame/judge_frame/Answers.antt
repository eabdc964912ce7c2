use Rattle.std.proofs.Common.{rules, sym, ◌∙◌}
use Rattle.net_udp.specs.Frames.{linked}
use Rattle.net_udp.proofs.FramesLemmas.FaultOrder.{judged, network_first}
use Rattle.net_udp.proofs.frames.frame.judge_frame.Goals as goal

pub returns : goal.returns
returns c =
    judged c.args.link_number c.args.frame.now (linked c.in-Some-read_carried.carried) c.in-Some-network.network
    (c.in-Some.link, sym c.link_type.ensures ∙ c.in-Some.is, c.in-Some-read_carried.ensures) c.in-Some-network.is c.read_ip.result c.read_ip.ensures

pub returns-in_default-network : goal.returns-in_default-network
returns-in_default-network c =
    network_first c.args.link_number c.args.frame.now (linked c.in-Some-read_carried.carried) (c.in-Some.link, sym c.link_type.ensures ∙ c.in-Some.is, c.in-Some-read_carried.ensures) (search rules)
