use Rattle.std.proofs.Common.{ap, ◌∙◌, ◌≡◌, arith, insert}
use Rattle.tftp_packet.specs.{shown, shown_entry, shown_entries, place}
use Rattle.tftp_packet.proofs.OwnedMaps.{insert_shown, insert_place, place_within}
use Rattle.tftp_packet.proofs.owned_options.insert_entry.Goals as goal

pub insert-requires : goal.insert-requires
insert-requires c =
    let within = place_within c.as_slice-2.result.now c.as_slice.result.now in
    omega (arith, c.place_of-at.ensures, c.as_slice.ensures.len)

pub returns : goal.returns
returns c =
    let old = c.args.entries.now.items in
    let at : c.place_of-at.result ≡ place c.args.entry.name (shown_entries old) = c.place_of-at.ensures ∙ (λ i. place (c.as_slice-2.ensures i) (shown_entries (c.as_slice.ensures.value i))) in
    ap shown_entries c.in_ok-insert.ensures.items ∙ insert_shown old c.place_of-at.result c.args.entry
    ∙ ap (λ i. insert (shown_entries old) i (shown_entry c.args.entry)) at ∙ insert_place (shown_entries old) c.args.entry.name (shown c.args.entry.value) c.requires
