use Rattle.law_end.proofs.Whole.TwoEnds.{rules}
use Rattle.law_end.proofs.two_ends.runs_break_no_rule.Goals as goal

pub returns : goal.returns
returns c = record { rules = λ h m wire ds seen. (rules h m wire ds seen).0; accord = λ h m wire ds seen. (rules h m wire ds seen).1 }
