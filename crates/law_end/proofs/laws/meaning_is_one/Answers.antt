use Rattle.law_end.proofs.Whole.OneMeaning.{one_meaning}
use Rattle.law_end.proofs.laws.meaning_is_one.Goals as goal

pub returns : goal.returns
returns c = one_meaning
