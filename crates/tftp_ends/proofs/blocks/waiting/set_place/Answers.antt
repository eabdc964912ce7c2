use Rattle.std.proofs.Common.{ap, ◌∙◌, ◌++◌, ◌∷◌, [], slice_set, arith}
use Rattle.tftp_ends.specs.Blocks.{placed}
use Rattle.tftp_ends.proofs.BlocksLemmas.Places.{placed_set, placed_more, placed_end}
use Rattle.tftp_ends.proofs.blocks.waiting.set_place.Goals as goal

pub returns-then-place-held : goal.returns-then-place-held
returns-then-place-held c = let own = c.args.places.now.ok.0 in let read = c.len-held.ensures in let low = c.if-place-held.true in
    ap (slice_set c.args.places.now.items c.args.place) c.of.ensures ∙ placed_set c.args.places.now.items c.args.place c.args.span (omega arith)

pub loop-places-preserved : goal.loop-places-preserved
loop-places-preserved c =
    let own = c.loop-places.places.ok.0 in
    let read = c.len.ensures in
    let low = c.loop-places-test.true in
    let grown = c.push_back_reserved.ensures.len in
    let kept = c.push_back_reserved.ensures.capacity in
    let room = c.loop-places.invariant.room in
    record {
      same = ap (λ t. placed t c.args.place c.args.span) (c.push_back_reserved.ensures.items ∙ ap (λ p. c.loop-places.places.items ++ p ∷ []) c.gap.ensures)
          ∙ placed_more c.loop-places.places.items c.args.place c.args.span (omega arith)
          ∙ c.loop-places.invariant.same;
      within = omega arith;
      room = omega arith;
    }

pub returns : goal.returns
returns c =
    let own = c.loop-places.places.ok.0 in
    let read = c.len.ensures in
    let high = c.loop-places-test.false in
    let within = c.loop-places.invariant.within in
    c.push_back_reserved-2.ensures.items
    ∙ ap (λ p. c.loop-places.places.items ++ p ∷ []) c.of-2.ensures
    ∙ placed_end c.loop-places.places.items c.args.place c.args.span (omega arith)
    ∙ c.loop-places.invariant.same
