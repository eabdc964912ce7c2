use Rattle.std.proofs.Common.{ap, ◌∙◌, refl}
use Rattle.net_pcap.specs.{damaged_by, direction_by, missed_by}
use Rattle.net_pcap.proofs.OptionCuts.{first_sized}
use Rattle.net_pcap.proofs.Packets.{timed_spelled, timed_short, timed_wrong}
use Rattle.net_pcap.proofs.blocks.timed_of.Goals as goal

pub returns-then-body-padded-clause-timed : goal.returns-then-body-padded-clause-timed
returns-then-body-padded-clause-timed c = timed_short c.args.order c.args.interface c.args.count c.args.body.now c.number-captured.result c.requires c.number-captured.ensures c.if-body-padded.true

pub returns-in_default-clause-timed : goal.returns-in_default-clause-timed
returns-in_default-clause-timed c = timed_wrong c.args.order c.args.interface c.args.count c.args.body.now c.number-captured.result c.requires c.number-captured.ensures c.in_default.ensures

pub direction_by-requires : goal.direction_by-requires
direction_by-requires c = first_sized 2 4 c.in-Some.ensures.0 _ c.in-Some.ensures.2

pub damaged_by-requires : goal.damaged_by-requires
damaged_by-requires c = first_sized 2 4 c.in-Some.ensures.0 _ c.in-Some.ensures.2

pub missed_by-requires : goal.missed_by-requires
missed_by-requires c = first_sized 4 8 c.in-Some-find_option.ensures.0 _ c.in-Some-find_option.ensures.2

pub returns-clause-timed : goal.returns-clause-timed
returns-clause-timed c =
    timed_spelled c.args.order c.args.interface c.args.count c.args.body.now c.number-high.result c.number-low.result c.number-captured.result c.number.result c.direction_by.result c.damaged_by.result c.missed_by.result c.time_of.result c.in-Some.ensures.0 c.in-Some-find_option.ensures.0 _
    c.requires c.number-high.ensures c.number-low.ensures c.number-captured.ensures c.number.ensures c.if-captured-gt-LONGEST_FRAME.false c.if-body-padded.false c.in-Some.ensures.1 c.in-Some-find_option.ensures.1
    (c.direction_by.ensures ∙ ap (direction_by c.args.order) c.in-Some.ensures.2) (c.damaged_by.ensures ∙ ap (damaged_by c.args.order) c.in-Some.ensures.2) (c.missed_by.ensures ∙ ap (missed_by c.args.order c.args.count) c.in-Some-find_option.ensures.2)
    c.time_of.ensures refl
