use Rattle.tftp_ends.proofs.BlocksLemmas.Stores.{fourth_is_new, first_is_same, first_differs, front_is_one, takes_fifth, not_sixth, not_short_third, first_is_alone}
use Rattle.tftp_ends.proofs.blocks.laws.two_held_blocks.Goals as goal

pub returns-clause-new : goal.returns-clause-new
returns-clause-new c = fourth_is_new

pub returns-clause-same : goal.returns-clause-same
returns-clause-same c = first_is_same

pub returns-clause-differs : goal.returns-clause-differs
returns-clause-differs c = first_differs

pub returns-clause-front : goal.returns-clause-front
returns-clause-front c = front_is_one

pub returns-clause-fifth : goal.returns-clause-fifth
returns-clause-fifth c = takes_fifth

pub returns-clause-sixth : goal.returns-clause-sixth
returns-clause-sixth c = not_sixth

pub returns-clause-short_third : goal.returns-clause-short_third
returns-clause-short_third c = not_short_third

pub returns-clause-alone : goal.returns-clause-alone
returns-clause-alone c = first_is_alone
