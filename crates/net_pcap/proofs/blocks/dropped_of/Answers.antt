use Rattle.std.proofs.Common.{◌+◌, ap, ◌∙◌, arith}
use Rattle.net_pcap.specs.{capped, counter_by}
use Rattle.net_pcap.proofs.OptionCuts.{first_sized}
use Rattle.net_pcap.proofs.Statistics.{statistics_spelled}
use Rattle.net_pcap.proofs.blocks.dropped_of.Goals as goal

pub counter_by-requires : goal.counter_by-requires
counter_by-requires c = first_sized 5 8 c.in_ok-by_interface.ensures.0 _ c.in_ok-by_interface.ensures.2

pub counter_by-requires-2 : goal.counter_by-requires-2
counter_by-requires-2 c = first_sized 7 8 c.in_ok-by_system.ensures.0 _ c.in_ok-by_system.ensures.2

pub returns : goal.returns
returns c =
    let one = c.counter_by.ensures ∙ ap (counter_by c.args.order) c.in_ok-by_interface.ensures.2 in
    let other = c.counter_by-2.ensures ∙ ap (counter_by c.args.order) c.in_ok-by_system.ensures.2 in
    statistics_spelled c.args.order c.args.interfaces.now c.args.body.now _ c.in_ok-by_interface.ensures.0 c.in_ok-by_system.ensures.0 c.if-body-lt12.false c.number-interface.ensures (omega (arith, c.if-interface-interfaces.false))
    c.in_ok-by_interface.ensures.1 c.in_ok-by_system.ensures.1 (c.saturating_add-count.ensures ∙ λ i. capped (one i + other i))
