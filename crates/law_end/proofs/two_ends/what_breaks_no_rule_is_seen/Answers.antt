use Rattle.law_end.proofs.Whole.TwoEnds.{seen, some}
use Rattle.law_end.proofs.two_ends.what_breaks_no_rule_is_seen.Goals as goal

pub returns : goal.returns
returns c = record { seen = seen; some = some }
