use Rattle.std.proofs.Common.{Ok, ap, subst, arith}
use Rattle.tftp_capture.specs.{IsReadStanding}
use Rattle.judge_losses.proofs.text.clues_in.Goals as goal

pub loop-datagram-init : goal.loop-datagram-init
loop-datagram-init g c = c.in_ok-capture.ensures.open

pub next_into-requires : goal.next_into-requires
next_into-requires g c = record { told = λ reads. absurd (subst IsReadStanding c.loop-datagram.invariant reads) }

pub loop-datagram-smaller : goal.loop-datagram-smaller
loop-datagram-smaller g c =
    let rises = c.in_ok-next_into.ensures.rises (ap Ok c.if-branch.true) in
    omega (arith, rises, c.in_ok-next_into.ensures.line)

pub loop-datagram-preserved : goal.loop-datagram-preserved
loop-datagram-preserved g c = rw c.if-branch.true at c.in_ok-next_into.ensures.standing
