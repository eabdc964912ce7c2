use Rattle.law_end.proofs.Whole.Beginnings.{one_end}
use Rattle.law_end.proofs.laws.first_unlawful_datagram_is_one.Goals as goal

pub returns : goal.returns
returns c = one_end
