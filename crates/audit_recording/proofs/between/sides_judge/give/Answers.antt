use Rattle.std.proofs.Common.{◌∷◌, sym, subst}
use Rattle.judge_tap.specs.{passing_of}
use Rattle.audit_recording.specs.Between.{HasTappedBy}
use Rattle.audit_recording.proofs.BetweenLemmas.Tapping.{given_more, numbered_more}
use Rattle.audit_recording.proofs.between.sides_judge.give.Goals as goal

pub returns-in-Some-clause-tapped : goal.returns-in-Some-clause-tapped
returns-in-Some-clause-tapped g c s given tapped =
    let old = c.args.judge.now in
    let d = passing_of c.args.datagram in
    let fed = c.feed_numbered-kept in
    subst (λ o. HasTappedBy o fed.new.self s (d ∷ given)) (sym c.in-Some.is)
    (numbered_more c.in-Some.rollover old fed.new.self s given d fed.result fed.ensures.accepts fed.ensures.refuses fed.ensures.keeps fed.ensures.for_good fed.ensures.goes_on
    (subst (λ o. HasTappedBy o old s given) c.in-Some.is tapped))

pub returns-in-None-clause-tapped : goal.returns-in-None-clause-tapped
returns-in-None-clause-tapped g c s given tapped =
    let old = c.args.judge.now in
    let d = passing_of c.args.datagram in
    let fed = c.feed-kept in
    subst (λ o. HasTappedBy o fed.new.self s (d ∷ given)) (sym c.in-None.is)
    (given_more old fed.new.self s given d fed.result (fed.ensures.accepts s given) (fed.ensures.refuses s given) fed.ensures.keeps fed.ensures.for_good fed.ensures.goes_on
    (subst (λ o. HasTappedBy o old s given) c.in-None.is tapped))
