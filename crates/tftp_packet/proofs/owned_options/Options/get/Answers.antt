use Rattle.std.proofs.Common.{sym, ap, subst, ◌∙◌}
use Rattle.std.specs.Ordering.{nat_cmp}
use Rattle.std.specs.Cmp.Lexicographic.{slice_cmp}
use Rattle.std.specs.FinMap.{find}
use Rattle.tftp_packet.specs.{lower, shown_entries, AreInOrder}
use Rattle.tftp_packet.proofs.OwnedMaps.{shown_get}
use Rattle.tftp_packet.proofs.owned_options.Options.get.Goals as goal

pub find_value-requires : goal.find_value-requires
find_value-requires c = subst (λ es. AreInOrder (shown_entries es)) (sym c.as_slice.ensures.value) c.self.invariant

pub returns : goal.returns
returns c =
    c.find_value.ensures ∙ ap (λ es. find (slice_cmp nat_cmp) (lower c.args.name.now) (shown_entries es)) c.as_slice.ensures.value
    ∙ sym (shown_get c.self.inside.entries.items c.self.invariant c.args.self.now c.self.view_is (lower c.args.name.now))
