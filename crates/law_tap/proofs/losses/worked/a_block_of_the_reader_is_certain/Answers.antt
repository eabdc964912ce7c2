use Rattle.law_tap.proofs.WorkedStanding.{block_certain, block_refused}
use Rattle.law_tap.proofs.losses.worked.a_block_of_the_reader_is_certain.Goals as goal

pub returns-clause-refused : goal.returns-clause-refused
returns-clause-refused c = block_refused

pub returns-clause-certain : goal.returns-clause-certain
returns-clause-certain c = block_certain
