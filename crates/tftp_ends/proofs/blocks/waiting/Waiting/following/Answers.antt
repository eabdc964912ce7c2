use Rattle.std.proofs.Common.{ap, sym, subst, ◌∙◌, ◌≡◌, length, drop, None, arith}
use Rattle.std.proofs.lemmas.List.{get_or_default}
use Rattle.tftp_ends.specs.Blocks.{leading, IsEven, shown}
use Rattle.tftp_ends.proofs.BlocksLemmas.Spans.{length_shown, leading_at, leading_gap}
use Rattle.tftp_ends.proofs.blocks.waiting.Waiting.following.Goals as goal

pub overflow_add-total : goal.overflow_add-total
overflow_add-total c =
    let own = c.self.inside.places.ok.0 in
    let read = c.len.ensures in
    let low = c.loop-at-test.true in
    let span = get_or_default c.self.inside.places.items c.loop-at.at None c.index.result.now (omega arith) ∙ sym c.index.ensures ∙ sym c.span.ensures.value ∙ c.in-Some.is in
    let even = subst (λ v. IsEven c.args.block_size v.0) (sym c.self.view_is) c.requires.even in
    let block = leading_at c.args.block_size c.self.inside.bytes.items c.self.inside.places.items c.loop-at.at c.in-Some.span c.self.invariant even (omega arith) span in
    let fits = block.1 in
    let small = c.ranges.block_size.fits in
    let bound = c.loop-at.invariant.bound in
    let inside = c.loop-at.invariant.within in
    omega arith

pub loop-at-preserved : goal.loop-at-preserved
loop-at-preserved c =
    let own = c.self.inside.places.ok.0 in
    let read = c.len.ensures in
    let low = c.loop-at-test.true in
    let span = get_or_default c.self.inside.places.items c.loop-at.at None c.index.result.now (omega arith) ∙ sym c.index.ensures ∙ sym c.span.ensures.value ∙ c.in-Some.is in
    let even = subst (λ v. IsEven c.args.block_size v.0) (sym c.self.view_is) c.requires.even in
    let block = leading_at c.args.block_size c.self.inside.bytes.items c.self.inside.places.items c.loop-at.at c.in-Some.span c.self.invariant even (omega arith) span in
    let step = block.0 in
    let fits = block.1 in
    let long = length_shown c.self.inside.bytes.items c.self.inside.places.items in
    let same = ap (λ v. length v.0) c.self.view_is in
    let small = c.ranges.block_size.fits in
    let total = c.loop-at.invariant.total in
    let bound = c.loop-at.invariant.bound in
    let inside = c.loop-at.invariant.within in
    let few = c.requires.length in
    record {
      total = omega arith;
      from_one = omega arith;
      bound = omega arith;
      within = (omega arith, omega arith);
    }

pub returns-in-None-clause-value : goal.returns-in-None-clause-value
returns-in-None-clause-value c =
    let own = c.self.inside.places.ok.0 in
    let read = c.len.ensures in
    let low = c.loop-at-test.true in
    let gap = get_or_default c.self.inside.places.items c.loop-at.at None c.index.result.now (omega arith) ∙ sym c.index.ensures ∙ sym c.span.ensures.value ∙ c.in-None.is in
    let none = leading_gap c.self.inside.bytes.items c.self.inside.places.items c.loop-at.at (omega arith) gap in
    let total = c.loop-at.invariant.total in
    let counted : c.loop-at.total ≡ leading (drop 1 (shown c.self.inside.bytes.items c.self.inside.places.items)) = omega arith in
    counted ∙ ap (λ v. leading (drop 1 v.0)) c.self.view_is
