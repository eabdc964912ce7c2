use Rattle.std.proofs.Common.{◌∷◌, OnOk, IfErr, refl, sym, subst}
use Rattle.law_rollover.specs.{unrolled_payload}
use Rattle.law_tap.specs.{TapDatagram, TapPasses, transfer_between}
use Rattle.judge_tap.specs.{IsCertainByRule, IsTapJudge, RefusesAtTap}
use Rattle.judge_tap.proofs.TakenBetween.{kept_high}
use Rattle.judge_tap.proofs.judging.TapJudge.feed_numbered.Goals as goal

pub returns-clause-accepts : goal.returns-clause-accepts
returns-clause-accepts g c = λ s earlier d stands (high, top, is).
    subst (λ (x : TapDatagram). OnOk c.take.result (TapPasses s earlier x × IsTapJudge c.take.new.self s (x ∷ earlier))) (sym is)
    (c.take.ensures.accepts s earlier (unrolled_payload c.args.rollover high c.args.datagram.payload) stands (high, top, refl))

pub returns-clause-refuses : goal.returns-clause-refuses
returns-clause-refuses g c = λ s earlier d stands (high, top, is).
    subst (λ (x : TapDatagram). IfErr c.take.result (RefusesAtTap s earlier x)) (sym is)
    (c.take.ensures.refuses s earlier (unrolled_payload c.args.rollover high c.args.datagram.payload) stands (high, top, refl))

pub returns-clause-certain : goal.returns-clause-certain
returns-clause-certain g c = λ s earlier d stands (high, top, is).
    subst (λ (x : TapDatagram). IfErr c.take.result (IsCertainByRule s earlier x)) (sym is)
    (c.take.ensures.certain s earlier (unrolled_payload c.args.rollover high c.args.datagram.payload) stands (high, top, refl))

pub returns-clause-unrolls : goal.returns-clause-unrolls
returns-clause-unrolls g c = λ s earlier stands.
    let (high, top) = kept_high s (transfer_between s earlier) c.args.self.now.state.transfer stands.kept.kept in
    (_, (high, top, refl))
