use Rattle.std.proofs.Common.{subst}
use Rattle.tftp_capture.specs.{datagram_of}
use Rattle.law_model.specs.Rules.{transfer_of}
use Rattle.law_rollover.specs.{IsTaken}
use Rattle.tftp_judge.proofs.Taken.{as_unrolled}
use Rattle.judge_pair.proofs.judge.side.judge_next.Goals as goal

pub returns-in-Some-clause-accepts : goal.returns-in-Some-clause-accepts
returns-in-Some-clause-accepts g c = λ h earlier d after is.
    let passed = transfer_of h earlier in
    let here = datagram_of c.args.datagram.now in
    c.feed_numbered.ensures.accepts h earlier d after (as_unrolled c.in-Some.rollover passed here d (subst (λ o. IsTaken o passed here d) c.in-Some.is is))

pub returns-in-Some-clause-refuses : goal.returns-in-Some-clause-refuses
returns-in-Some-clause-refuses g c = λ h earlier d after is.
    let passed = transfer_of h earlier in
    let here = datagram_of c.args.datagram.now in
    c.feed_numbered.ensures.refuses h earlier d after (as_unrolled c.in-Some.rollover passed here d (subst (λ o. IsTaken o passed here d) c.in-Some.is is))
