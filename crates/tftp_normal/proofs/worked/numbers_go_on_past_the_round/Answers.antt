use Rattle.tftp_normal.proofs.PastTheRound.{by_one, by_zero}
use Rattle.tftp_normal.proofs.worked.numbers_go_on_past_the_round.Goals as goal

pub returns-clause-by_zero : goal.returns-clause-by_zero
returns-clause-by_zero c = by_zero

pub returns-clause-by_one : goal.returns-clause-by_one
returns-clause-by_one c = by_one
