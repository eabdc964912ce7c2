use Rattle.std.proofs.Common.{◌∷◌, sym, subst}
use Rattle.tftp_capture.specs.{datagram_of}
use Rattle.audit_views.specs.Views.{HasJudgedBy}
use Rattle.audit_views.proofs.ViewsLemmas.Judging.{given_more, numbered_more}
use Rattle.audit_views.proofs.views.end_judge.feed.Goals as goal

pub returns-in-Some-clause-judged : goal.returns-in-Some-clause-judged
returns-in-Some-clause-judged g c h given judged =
    let old = c.args.judge.now in
    let d = datagram_of c.args.datagram.now in
    let fed = c.feed_numbered-kept in
    subst (λ o. HasJudgedBy o fed.new.self h (d ∷ given)) (sym c.in-Some.is)
    (numbered_more c.in-Some.rollover old fed.new.self h given d fed.result fed.ensures.accepts fed.ensures.refuses fed.ensures.keeps fed.ensures.for_good fed.ensures.goes_on
    (subst (λ o. HasJudgedBy o old h given) c.in-Some.is judged))

pub returns-in-None-clause-judged : goal.returns-in-None-clause-judged
returns-in-None-clause-judged g c h given judged =
    let old = c.args.judge.now in
    let d = datagram_of c.args.datagram.now in
    let fed = c.feed-kept in
    subst (λ o. HasJudgedBy o fed.new.self h (d ∷ given)) (sym c.in-None.is)
    (given_more old fed.new.self h given d fed.result (fed.ensures.accepts h given) (fed.ensures.refuses h given) fed.ensures.keeps fed.ensures.for_good fed.ensures.goes_on
    (subst (λ o. HasJudgedBy o old h given) c.in-None.is judged))
