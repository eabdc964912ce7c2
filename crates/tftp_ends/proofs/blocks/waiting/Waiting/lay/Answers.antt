use Rattle.std.proofs.Common.{ap, sym, subst, ◌∙◌, ◌≡◌, ◌++◌, length, arith}
use Rattle.std.proofs.lemmas.List.{length-append}
use Rattle.tftp_ends.specs.Blocks.{placed, shown, AreWithin}
use Rattle.tftp_ends.specs.declared.blocks.waiting.Span.{Span}
use Rattle.tftp_ends.proofs.BlocksLemmas.Spans.{within_more, within_placed, shown_held}
use Rattle.tftp_ends.proofs.blocks.waiting.Waiting.lay.Goals as goal

pub invariant_of-self-2 : goal.invariant_of-self-2
invariant_of-self-2 c =
    let own = c.self.inside.bytes.ok in
    let start = c.len-start.ensures in
    let span : Span = record { start = c.len-start.result; len = length c.args.block.now } in
    let places : c.set_place.new.places.items ≡ placed c.self.inside.places.items c.args.place span =
    c.set_place.ensures ∙ ap (λ ps. placed ps c.args.place span) c.in_ok-reserve.ensures.items in
    let long = ap length c.in_ok-extend_from_slice.ensures.items ∙ length-append c.self.inside.bytes.items c.args.block.now in
    subst (AreWithin (length c.extend_from_slice.new.self.items)) (sym places)
    (within_placed (length c.extend_from_slice.new.self.items) c.self.inside.places.items c.args.place span
    (within_more (length c.self.inside.bytes.items) (length c.extend_from_slice.new.self.items) c.self.inside.places.items (omega arith) c.self.invariant) (omega arith))

pub returns-clause-ok : goal.returns-clause-ok
returns-clause-ok c =
    let own = c.self.inside.bytes.ok in
    let start = c.len-start.ensures in
    let span : Span = record { start = c.len-start.result; len = length c.args.block.now } in
    let places : c.set_place.new.places.items ≡ placed c.self.inside.places.items c.args.place span =
    c.set_place.ensures ∙ ap (λ ps. placed ps c.args.place span) c.in_ok-reserve.ensures.items in
    ap (λ bytes. shown bytes c.set_place.new.places.items) c.in_ok-extend_from_slice.ensures.items
    ∙ ap (shown (c.self.inside.bytes.items ++ c.args.block.now)) places
    ∙ shown_held c.self.inside.bytes.items c.args.block.now c.self.inside.places.items c.args.place span c.self.invariant (omega arith) (omega arith)
    ∙ ap (λ v. placed v.0 c.args.place c.args.block.now) c.self.view_is
