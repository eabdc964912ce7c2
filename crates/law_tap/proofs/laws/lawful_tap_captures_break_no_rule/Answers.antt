use Rattle.law_tap.proofs.TapLaw.{rules_are_runs}
use Rattle.law_tap.proofs.laws.lawful_tap_captures_break_no_rule.Goals as goal

pub returns : goal.returns
returns c = λ s tapped apart. rules_are_runs s apart tapped
