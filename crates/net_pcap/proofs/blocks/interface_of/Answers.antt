use Rattle.std.proofs.Common.{ap, ◌∙◌}
use Rattle.net_pcap.specs.{units_by, offset_by}
use Rattle.net_pcap.proofs.OptionCuts.{first_sized}
use Rattle.net_pcap.proofs.Packets.{interface_spelled}
use Rattle.net_pcap.proofs.blocks.interface_of.Goals as goal

pub units_by-requires : goal.units_by-requires
units_by-requires c = first_sized 9 1 c.in_ok-resolution.ensures.0 _ c.in_ok-resolution.ensures.2

pub offset_by-requires : goal.offset_by-requires
offset_by-requires c = first_sized 14 8 c.in_ok-offset.ensures.0 _ c.in_ok-offset.ensures.2

pub returns : goal.returns
returns c = interface_spelled c.args.order c.args.body.now _ c.in_ok-resolution.ensures.0 c.in_ok-offset.ensures.0 c.if-body-lt8.false c.short.ensures c.number.ensures
    c.in_ok-resolution.ensures.1 c.in_ok-offset.ensures.1 (c.units_by.ensures ∙ ap units_by c.in_ok-resolution.ensures.2) (c.offset_by.ensures ∙ ap (offset_by c.args.order) c.in_ok-offset.ensures.2)
