use Rattle.law_end.proofs.Whole.TwoEnds.{lawful, divides_by_rules}
use Rattle.law_end.proofs.two_ends.lawful_captures_break_no_rule.Goals as goal

pub returns : goal.returns
returns c = record { lawful = lawful; divides = divides_by_rules }
