use Rattle.std.proofs.Common.{sym, subst, ◌∙◌}
use Rattle.tftp_packet.specs.{HasEach}
use Rattle.tftp_packet.proofs.SameMaps.{same_from_each, map_has_each}
use Rattle.tftp_packet.proofs.same.same_options.Goals as goal

pub returns-then-len : goal.returns-then-len
returns-then-len c =
    let apart = c.has_each.ensures.options.2 in (
      (λ is. same_from_each c.args.options.now c.args.view.now apart (sym c.len.ensures ∙ c.if-len.true ∙ c.len-2.ensures.map) (c.has_each.ensures.each.0 is)),
      (λ e. c.has_each.ensures.each.1 (subst (λ m. HasEach m c.args.view.now) (sym e) (map_has_each c.args.view.now apart))),
    )
