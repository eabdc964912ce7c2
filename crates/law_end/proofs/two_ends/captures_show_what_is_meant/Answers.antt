use Rattle.law_end.proofs.Whole.TwoEnds.{whole, one}
use Rattle.law_end.proofs.two_ends.captures_show_what_is_meant.Goals as goal

pub returns : goal.returns
returns c = record { whole = whole; one = one }
