use Rattle.std.proofs.Common.{◌∷◌, Result, OnOk, OnErr, sym, subst}
use Rattle.law_tap.specs.{transfer_between}
use Rattle.tftp_judge.specs.{PassError}
use Rattle.judge_tap.specs.{AreTold, IsHeard, IsToldIfBroken}
use Rattle.judge_tap.proofs.ToldFound.{if_broken}
use Rattle.judge_tap.proofs.keeping.TapState.tell.Goals as goal

pub returns-in-Ok-clause-told : goal.returns-in-Ok-clause-told
returns-in-Ok-clause-told g c = λ s earlier d apart passes heard read source passing told.
    subst (λ (r : Result (Unit {0}) PassError). OnOk r (AreTold c.hear.new.self.told s (d ∷ earlier))) (sym c.in-Ok.is) (c.hear.ensures.told s earlier d c.args.from apart passes heard read source passing told)

pub returns-in-Ok-clause-stands : goal.returns-in-Ok-clause-stands
returns-in-Ok-clause-stands g c = λ s earlier d apart passes heard read source goes told.
    subst (λ (r : Result (Unit {0}) PassError). IsToldIfBroken s earlier d r c.hear.new.self.stands) (sym c.in-Ok.is) tt

pub returns-in-Err-clause-told : goal.returns-in-Err-clause-told
returns-in-Err-clause-told g c = λ s earlier d apart passes heard read source passing told.
    subst (λ (r : Result (Unit {0}) PassError). OnOk r (AreTold c.self.inside.told s (d ∷ earlier))) (sym c.in-Err.is) tt

pub returns-in-Err-clause-stands : goal.returns-in-Err-clause-stands
returns-in-Err-clause-stands g c = λ s earlier d apart passes heard read source goes told.
    let was : IsHeard s (transfer_between s earlier) c.args.self.now.transfer = subst (λ (r : Result (Unit {0}) PassError). OnErr r (IsHeard s (transfer_between s earlier) c.args.self.now.transfer)) c.in-Err.is heard in
    subst (λ (r : Result (Unit {0}) PassError). IsToldIfBroken s earlier d r c.standing_said-self-inside.result) (sym c.in-Err.is)
    (if_broken s earlier d c.in-Err.field-0 c.standing_said-self-inside.result (c.standing_said-self-inside.ensures s earlier d apart passes was told read source goes))
