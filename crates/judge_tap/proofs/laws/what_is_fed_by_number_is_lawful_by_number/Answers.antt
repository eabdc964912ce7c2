use Rattle.std.proofs.Common.{◌∷◌, List, subst}
use Rattle.law_tap.specs.{IsSeenBetween, TapDatagram}
use Rattle.law_tap.proofs.TapLaw.{rules_are_runs}
use Rattle.law_tap.proofs.TapUnrolled.{in_one_way, seen_back, seen_on}
use Rattle.judge_tap.proofs.laws.what_is_fed_by_number_is_lawful_by_number.Goals as goal

pub returns-clause-accepted : goal.returns-clause-accepted
returns-clause-accepted c = λ r j s tapped unrolled stands bytes are.
    let (m, wire, seen) = (rules_are_runs s stands.apart unrolled).1 stands.lawful in
    (m, wire, seen_back r s stands.apart m wire tapped unrolled bytes are seen)

pub returns-clause-refused : goal.returns-clause-refused
returns-clause-refused c = λ r j s tapped unrolled raw d stands are is index broken told refused (m, wire, shown).
    let (all, every, seen) = seen_on r s stands.apart m wire (raw ∷ tapped) shown in
    let same = in_one_way r s (raw ∷ tapped) all (d ∷ unrolled) every (is, are) in
    let passes = (rules_are_runs s stands.apart (d ∷ unrolled)).0 (m, wire, subst (λ (l : List TapDatagram). IsSeenBetween s m wire l) same seen) in
    passes.0.lawful broken refused.1.breaks
