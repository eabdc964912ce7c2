use Rattle.std.proofs.Common.{◌≡◌, ◌+◌, ◌≤◌, arith}
use Rattle.tftp_match.proofs.CopiesLemmas.{AreNoneFrom, block_more, last_block, none_further}
use Rattle.tftp_match.proofs.copies.add_from.Goals as goal

pub loop-block-preserved : goal.loop-block-preserved
loop-block-preserved c one other sender receiver =
    block_more c.args.from one other c.loop-block.block _ _ _ _ (c.loop-block.invariant one other sender receiver) (c.in_ok-add-3.ensures one other sender receiver) (c.in_ok-add-4.ensures one other sender receiver)

pub returns-then-not-reaches-2 : goal.returns-then-not-reaches-2
returns-then-not-reaches-2 c one other sender receiver =
    let low = c.loop-block-test.true in
    let few : c.loop-block.block ≤ 8421376 = omega (arith, low) in
    let none : AreNoneFrom c.loop-block.block one other = λ packet beyond.
    ((c.reaches.ensures one packet sender c.if-not-reaches.true beyond).0, (c.reaches-then-not-reaches.ensures other packet receiver c.if-not-reaches-2.true beyond).1) in
    none_further c.args.from one other c.loop-block.block _ _ few none (c.loop-block.invariant one other sender receiver)

pub returns : goal.returns
returns c one other sender receiver =
    let low = c.loop-block.auto.block-end in
    let high = c.loop-block-test.false in
    let last : c.loop-block.block ≡ 8421376 = omega (arith, low, high) in
    last_block c.args.from one other c.loop-block.block _ _ last (c.loop-block.invariant one other sender receiver)
