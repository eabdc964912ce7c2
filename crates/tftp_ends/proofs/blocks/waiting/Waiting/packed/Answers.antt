use Rattle.std.proofs.Common.{ap, sym, ◌∙◌, ◌+◌, ◌++◌, ◌∷◌, [], None, slice_index_or, arith}
use Rattle.std.proofs.lemmas.List.{take_more}
use Rattle.tftp_ends.specs.Blocks.{total}
use Rattle.tftp_ends.proofs.BlocksLemmas.Spans.{total_more}
use Rattle.tftp_ends.proofs.blocks.waiting.Waiting.packed.Goals as goal

pub loop-place-preserved : goal.loop-place-preserved
loop-place-preserved c =
    let low = c.loop-place-test.true in
    let end = c.loop-place.invariant.end_is in
    let more = total_more c.args.self.now.0 c.loop-place.place (omega arith) in
    let before = c.loop-place.invariant.kept in
    let grown = c.in_ok-add.ensures.kept ∙ ap (λ slot. c.loop-place.packed.1 + total (slot ∷ [])) c.get.ensures.value in
    record {
      same = c.in_ok-add.ensures.places
          ∙ ap (λ slot. c.loop-place.packed.0 ++ slot ∷ []) c.get.ensures.value
          ∙ ap (λ slots. slots ++ slice_index_or c.args.self.now.0 c.loop-place.place None ∷ []) c.loop-place.invariant.same
          ∙ sym (take_more c.args.self.now.0 c.loop-place.place None (omega arith));
      kept = omega arith;
      within = omega arith;
      end_is = c.loop-place.invariant.end_is;
    }
