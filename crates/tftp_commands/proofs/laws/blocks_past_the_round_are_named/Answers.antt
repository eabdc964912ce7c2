use Rattle.tftp_commands.proofs.PastTheRound.{by_number, by_one, by_zero}
use Rattle.tftp_commands.proofs.laws.blocks_past_the_round_are_named.Goals as goal

pub returns-clause-zero : goal.returns-clause-zero
returns-clause-zero c = by_zero

pub returns-clause-one : goal.returns-clause-one
returns-clause-one c = by_one

pub returns-clause-none : goal.returns-clause-none
returns-clause-none c = by_number
