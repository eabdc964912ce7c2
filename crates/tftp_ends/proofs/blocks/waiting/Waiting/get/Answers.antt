use Rattle.std.proofs.Common.{sym, ◌∙◌, ◌≡◌, length, Some, None, slice_index_or, refl, arith}
use Rattle.std.proofs.lemmas.List.{get_or_default}
use Rattle.tftp_ends.proofs.BlocksLemmas.Spans.{within_at}
use Rattle.tftp_ends.proofs.blocks.waiting.Waiting.get.Goals as goal

pub overflow_add-result : goal.overflow_add-result
overflow_add-result c =
    let own = c.self.inside.places.ok.0 in
    let low = c.in_ok-get.ensures.variant.0 refl in
    let bytes = c.self.inside.bytes.ok in
    let small = c.self.inside.bytes.small in
    let at : slice_index_or c.self.inside.places.items c.args.place None ≡ Some c.in_ok-span.span =
    get_or_default c.self.inside.places.items c.args.place None c.in_ok-get.field-0.now (omega arith) ∙ sym c.in_ok-get.ensures.lookup ∙ sym c.span.ensures.value ∙ c.in_ok-span.was in
    let within = within_at (length c.self.inside.bytes.items) c.self.inside.places.items c.args.place c.in_ok-span.span c.self.invariant at in
    omega arith

pub slice_bounds-result-end : goal.slice_bounds-result-end
slice_bounds-result-end c =
    let own = c.self.inside.places.ok.0 in
    let low = c.in_ok-get.ensures.variant.0 refl in
    let at : slice_index_or c.self.inside.places.items c.args.place None ≡ Some c.in_ok-span.span =
    get_or_default c.self.inside.places.items c.args.place None c.in_ok-get.field-0.now (omega arith) ∙ sym c.in_ok-get.ensures.lookup ∙ sym c.span.ensures.value ∙ c.in_ok-span.was in
    let within = within_at (length c.self.inside.bytes.items) c.self.inside.places.items c.args.place c.in_ok-span.span c.self.invariant at in
    let value = c.deref.ensures.value in
    let long = c.deref.ensures.len in
    omega arith
