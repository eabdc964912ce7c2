use Rattle.law_tap.proofs.TapLaw.{rules_are_runs}
use Rattle.law_tap.proofs.TapUnrolled.{seen_on, seen_back}
use Rattle.law_tap.proofs.numbers.laws.what_is_lawful_by_number_breaks_no_rule.Goals as goal

pub returns : goal.returns
returns c r s tapped apart bytes = (
  λ (m, wire, seen). let (unrolled, are, now) = seen_on r s apart m wire tapped seen in (unrolled, are, (rules_are_runs s apart unrolled).0 (m, wire, now)),
  λ (unrolled, are, passes). let (m, wire, seen) = (rules_are_runs s apart unrolled).1 passes in (m, wire, seen_back r s apart m wire tapped unrolled bytes are seen),
)
