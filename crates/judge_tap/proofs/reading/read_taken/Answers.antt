use Rattle.std.proofs.Common.{sym, subst}
use Rattle.judge_tap.specs.{IsReadOf}
use Rattle.law_tap.specs.{IsTakenBetween}
use Rattle.judge_tap.proofs.TakenBetween.{near_taken}
use Rattle.judge_tap.proofs.TransferFound.{read_of}
use Rattle.judge_tap.proofs.reading.read_taken.Goals as goal

pub returns-in-Some : goal.returns-in-Some
returns-in-Some c = λ passed now high low taken.
    let near = near_taken passed c.args.payload.now now c.in-Some.rollover c.args.highest high (subst (λ o. IsTakenBetween o passed c.args.payload.now now) c.in-Some.is taken) in
    subst (λ l. IsReadOf l c.read_near.result) (sym near) (c.read_near.ensures low)

pub returns-in-None : goal.returns-in-None
returns-in-None c = λ passed now high low taken.
    subst (λ l. IsReadOf l c.read_packet.result) (sym (subst (λ o. IsTakenBetween o passed c.args.payload.now now) c.in-None.is taken))
    (read_of c.args.payload.now c.read_packet.result c.read_packet.ensures.found c.read_packet.ensures.fault)
