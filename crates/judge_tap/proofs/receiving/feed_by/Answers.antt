use Rattle.std.proofs.Common.{◌∷◌, OnOk, IfErr, sym, subst}
use Rattle.tftp_capture.specs.{datagram_of}
use Rattle.tftp_packet.specs.Hosts.{Datagram}
use Rattle.law_end.specs.{Passes}
use Rattle.law_model.specs.Rules.{transfer_of}
use Rattle.law_rollover.specs.{IsTaken}
use Rattle.tftp_judge.specs.{IsJudgeAfter, Refuses}
use Rattle.tftp_judge.proofs.Taken.{as_unrolled}
use Rattle.tftp_judge.proofs.TakenText.{itself_taken}
use Rattle.judge_tap.proofs.receiving.feed_by.Goals as goal

pub returns-in-Some-clause-accepts : goal.returns-in-Some-clause-accepts
returns-in-Some-clause-accepts g c = λ h earlier d after taken.
    let here = datagram_of c.args.datagram.now in
    c.feed_numbered.ensures.accepts h earlier d after (as_unrolled c.in-Some.rollover (transfer_of h earlier) here d (subst (λ o. IsTaken o (transfer_of h earlier) here d) c.in-Some.is taken))

pub returns-in-Some-clause-refuses : goal.returns-in-Some-clause-refuses
returns-in-Some-clause-refuses g c = λ h earlier d after taken.
    let here = datagram_of c.args.datagram.now in
    c.feed_numbered.ensures.refuses h earlier d after (as_unrolled c.in-Some.rollover (transfer_of h earlier) here d (subst (λ o. IsTaken o (transfer_of h earlier) here d) c.in-Some.is taken))

pub returns-in-None-clause-accepts : goal.returns-in-None-clause-accepts
returns-in-None-clause-accepts g c = λ h earlier d after taken.
    let here = datagram_of c.args.datagram.now in
    let same = itself_taken (transfer_of h earlier) here d (subst (λ o. IsTaken o (transfer_of h earlier) here d) c.in-None.is taken) in
    subst (λ (x : Datagram). OnOk c.feed.result (Passes h earlier x × IsJudgeAfter c.feed.new.self h (x ∷ earlier))) (sym same) (c.feed.ensures.accepts h earlier after)

pub returns-in-None-clause-refuses : goal.returns-in-None-clause-refuses
returns-in-None-clause-refuses g c = λ h earlier d after taken.
    let here = datagram_of c.args.datagram.now in
    let same = itself_taken (transfer_of h earlier) here d (subst (λ o. IsTaken o (transfer_of h earlier) here d) c.in-None.is taken) in
    subst (λ (x : Datagram). IfErr c.feed.result (Refuses h earlier x)) (sym same) (c.feed.ensures.refuses h earlier after)
