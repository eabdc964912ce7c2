use Rattle.std.proofs.Common.{zero, suc, ◌∙◌, arith}
use Rattle.tftp_packet.proofs.rounds.laws.numbers_come_again.Goals as goal
use Rattle.tftp_packet.proofs.RoundsLemmas.Turns.{low_numbers, numbers_by_zero, numbers_by_one}
use Rattle.tftp_packet.proofs.RoundsLemmas.Positions.{number_is_small}

pub returns-clause-low : goal.returns-clause-low
returns-clause-low c first k below = low_numbers first k below

pub returns-clause-zero : goal.returns-clause-zero
returns-clause-zero c k = numbers_by_zero k

pub returns-clause-one : goal.returns-clause-one
returns-clause-one c zero from = absurd (omega arith)
returns-clause-one c (suc k) from = numbers_by_one k ∙ omega arith

pub returns-clause-small : goal.returns-clause-small
returns-clause-small c r k = number_is_small r k
