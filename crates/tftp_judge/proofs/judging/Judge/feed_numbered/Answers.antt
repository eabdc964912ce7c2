use Rattle.std.proofs.Common.{Some}
use Rattle.tftp_capture.specs.{datagram_of}
use Rattle.law_model.specs.Rules.{transfer_of}
use Rattle.tftp_judge.proofs.Taken.{as_taken, as_unrolled, taken_there}
use Rattle.tftp_judge.proofs.judging.Judge.feed_numbered.Goals as goal

pub returns-clause-accepts : goal.returns-clause-accepts
returns-clause-accepts g c = λ h earlier d after is.
    c.take.ensures.accepts h earlier d after (as_taken c.args.rollover (transfer_of h earlier) (datagram_of c.args.datagram.now) d is)

pub returns-clause-refuses : goal.returns-clause-refuses
returns-clause-refuses g c = λ h earlier d after is.
    c.take.ensures.refuses h earlier d after (as_taken c.args.rollover (transfer_of h earlier) (datagram_of c.args.datagram.now) d is)

pub returns-clause-unrolls : goal.returns-clause-unrolls
returns-clause-unrolls g c = λ h earlier after.
    let (now, taken) = taken_there (Some c.args.rollover) h earlier (datagram_of c.args.datagram.now) after.lawful in
    (now, as_unrolled c.args.rollover (transfer_of h earlier) (datagram_of c.args.datagram.now) now taken)

pub returns-clause-routed : goal.returns-clause-routed
returns-clause-routed g c = λ h earlier d after is.
    c.take.ensures.routed h earlier d after (as_taken c.args.rollover (transfer_of h earlier) (datagram_of c.args.datagram.now) d is)
