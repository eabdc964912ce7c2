use Rattle.std.proofs.Common.{refl, ap, ◌∙◌, arith}
use Rattle.net_udp.specs.Frames.{packet_direction}
use Rattle.net_udp.proofs.FramesLemmas.Links.{ethernet, cooked, cooked_two}
use Rattle.net_udp.proofs.frames.link.read_link.Goals as goal

pub returns-in-Ethernet : goal.returns-in-Ethernet
returns-in-Ethernet c =
    ethernet c.args.link c.args.frame.now _ _ _ _ c.in-Ethernet.is c.pair_at.ensures c.split_at.ensures.back refl (omega (arith, c.least_length.ensures)) c.read_typed.ensures

pub returns-in-Cooked : goal.returns-in-Cooked
returns-in-Cooked c =
    cooked c.args.link c.args.frame.now _ _ _ _ c.in-Cooked.is c.pair_at-in-Cooked-2.ensures c.split_at-in-Cooked.ensures.back (c.direction_of.ensures ∙ ap packet_direction c.pair_at-in-Cooked.ensures) (omega (arith, c.least_length.ensures)) c.read_typed-in-Cooked.ensures

pub returns-in-CookedTwo : goal.returns-in-CookedTwo
returns-in-CookedTwo c =
    cooked_two c.args.link c.args.frame.now _ _ _ _ c.in-CookedTwo.is c.pair_at-in-CookedTwo.ensures c.split_at-in-CookedTwo.ensures.back (c.direction_of-in-CookedTwo.ensures ∙ ap packet_direction c.from.ensures) (omega (arith, c.least_length.ensures)) c.read_typed-in-CookedTwo.ensures
