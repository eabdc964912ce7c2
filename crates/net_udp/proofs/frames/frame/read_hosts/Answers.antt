use Rattle.std.proofs.Common.{rules, sym, ◌∙◌}
use Rattle.net_udp.specs.Frames.{linked}
use Rattle.net_udp.proofs.FramesLemmas.Hosts.{hosts_found, no_network, none_carried}
use Rattle.net_udp.proofs.frames.frame.read_hosts.Goals as goal

pub returns-in_default-network : goal.returns-in_default-network
returns-in_default-network c =
    no_network c.args.link_number c.args.frame.now (linked c.in-Some-read_carried.carried)
    (c.in-Some.link, sym c.link_type.ensures ∙ c.in-Some.is, c.in-Some-read_carried.ensures) (search rules)

pub returns : goal.returns
returns c =
    hosts_found c.args.link_number c.args.frame.now (linked c.in-Some-read_carried.carried) c.in-Some-network.network
    (c.in-Some.link, sym c.link_type.ensures ∙ c.in-Some.is, c.in-Some-read_carried.ensures) c.in-Some-network.is c.hosts_of.result c.hosts_of.ensures

pub returns-in_default-read_carried : goal.returns-in_default-read_carried
returns-in_default-read_carried c = none_carried c.args.link_number c.args.frame.now c.in-Some.link (sym c.link_type.ensures ∙ c.in-Some.is) c.in_default-read_carried.ensures
