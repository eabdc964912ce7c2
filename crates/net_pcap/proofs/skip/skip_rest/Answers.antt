use Rattle.net_pcap.specs.declared.layout.Layout.TheVariants.{Blocks}
use Rattle.net_pcap.proofs.Rests.{rest_cut, skip_bad, skip_says}
use Rattle.net_pcap.proofs.skip.skip_rest.Goals as goal

pub returns-then-not-branch-clause-ends : goal.returns-then-not-branch-clause-ends
returns-then-not-branch-clause-ends g c = λ interfaces.
    let (more, consumed, short) = rw c.if-not-branch.true at c.in_ok-skip_to_end.ensures.skips in
    (more, consumed, rest_cut (Blocks c.args.order) interfaces c.args.piece.now.items more c.args.size c.requires.front c.requires.announced c.requires.sized c.skip_to_end.new.piece.items short)

pub returns-then-number-size-clause-ends : goal.returns-then-number-size-clause-ends
returns-then-number-size-clause-ends g c = λ interfaces.
    let (more, consumed, reached) = rw c.if-not-branch.false at c.in_ok-skip_to_end.ensures.skips in
    (more, consumed, skip_bad c.args.order interfaces c.args.piece.now.items more c.skip_to_end.new.piece.items c.args.size c.requires.front c.requires.announced c.requires.sized c.requires.skipped reached c.number.result (rw c.deref.ensures.value at c.number.ensures) c.if-number-size.true)

pub returns-clause-ends : goal.returns-clause-ends
returns-clause-ends g c = λ interfaces.
    let (more, consumed, reached) = rw c.if-not-branch.false at c.in_ok-skip_to_end.ensures.skips in
    (more, consumed, skip_says c.args.order interfaces c.args.piece.now.items more c.skip_to_end.new.piece.items c.args.size c.requires.front c.requires.announced c.requires.sized c.requires.skipped reached c.number.result (rw c.deref.ensures.value at c.number.ensures) c.if-number-size.false)
