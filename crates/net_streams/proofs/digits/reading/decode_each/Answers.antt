use Rattle.std.proofs.Common.{arith, ap, ◌∙◌}
use Rattle.net_streams.proofs.DigitsLemmas.Pairs.{decodes_more, all_decoded}
use Rattle.net_streams.proofs.digits.reading.decode_each.Goals as goal
use Prim.Native.Nat.{max}
use borrow.Author.Tests.{ltb-true}

pub loop-byte-preserved : goal.loop-byte-preserved
loop-byte-preserved c =
    let top = c.max-most.ensures ∙ ap (λ m. max m c.nibble-low.result) c.max.ensures in
    decodes_more _ _ c.loop-byte.rest.now _ _ _ _ _ _ c.split_at.ensures.back top (omega arith) (omega arith) c.nibble-high.ensures c.nibble-low.ensures c.loop-byte.invariant

pub returns-clause-decoded : goal.returns-clause-decoded
returns-clause-decoded c = λ h.
    all_decoded _ _ _ c.loop-byte.byte-index _ (omega arith) (omega arith) (ltb-true c.loop-byte.most 16 h) c.loop-byte.invariant
