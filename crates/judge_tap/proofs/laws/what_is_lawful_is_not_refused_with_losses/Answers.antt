use Rattle.law_tap.proofs.CertainBetween.{between_lossy}
use Rattle.law_tap.proofs.TapLaw.{rules_are_runs}
use Rattle.judge_tap.proofs.laws.what_is_lawful_is_not_refused_with_losses.Goals as goal

pub returns-clause-lossy : goal.returns-clause-lossy
returns-clause-lossy c = λ s earlier d lossy index broken refused. refused.2 lossy

pub returns-clause-accepted : goal.returns-clause-accepted
returns-clause-accepted c = λ s earlier d apart passes index broken refused. refused.2 (between_lossy s _ ((rules_are_runs s apart _).1 passes))
