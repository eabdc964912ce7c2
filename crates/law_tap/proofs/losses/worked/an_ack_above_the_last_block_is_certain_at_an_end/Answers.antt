use Rattle.law_tap.proofs.WorkedPasses.{second_certain, second_sides}
use Rattle.law_tap.proofs.losses.worked.an_ack_above_the_last_block_is_certain_at_an_end.Goals as goal

pub returns-clause-sides : goal.returns-clause-sides
returns-clause-sides c = second_sides

pub returns-clause-certain : goal.returns-clause-certain
returns-clause-certain c = second_certain
