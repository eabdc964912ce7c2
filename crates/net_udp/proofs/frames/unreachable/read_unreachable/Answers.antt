use Rattle.std.proofs.Common.{rules, sym, ◌∙◌}
use Rattle.net_udp.specs.Frames.{linked}
use Rattle.net_udp.proofs.FramesLemmas.Unreached.{no_network_told, none_carried_told, told_found}
use Rattle.net_udp.proofs.frames.unreachable.read_unreachable.Goals as goal

pub returns-in_default-network : goal.returns-in_default-network
returns-in_default-network c =
    no_network_told c.args.link_number c.args.frame.now (linked c.in-Some-read_carried.carried)
    (c.in-Some.link, sym c.link_type.ensures ∙ c.in-Some.is, c.in-Some-read_carried.ensures) (search rules)

pub returns : goal.returns
returns c =
    told_found c.args.link_number c.args.frame.now (linked c.in-Some-read_carried.carried) c.in-Some-network.network
    (c.in-Some.link, sym c.link_type.ensures ∙ c.in-Some.is, c.in-Some-read_carried.ensures) c.in-Some-network.is c.told_in.result c.told_in.ensures

pub returns-in_default-read_carried : goal.returns-in_default-read_carried
returns-in_default-read_carried c = none_carried_told c.args.link_number c.args.frame.now c.in-Some.link (sym c.link_type.ensures ∙ c.in-Some.is) c.in_default-read_carried.ensures
