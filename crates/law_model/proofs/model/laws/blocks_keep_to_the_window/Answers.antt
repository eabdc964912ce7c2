use Rattle.law_model.proofs.ModelLemmas.Blocks.{block_in_window, block_in_given_window}
use Rattle.law_model.proofs.ModelLemmas.Starts.{step_by_step}
use Rattle.law_model.proofs.model.laws.blocks_keep_to_the_window.Goals as goal

pub returns-clause-taken : goal.returns-clause-taken
returns-clause-taken c = block_in_window

pub returns-clause-given : goal.returns-clause-given
returns-clause-given c = block_in_given_window

pub returns-clause-in_step : goal.returns-clause-in_step
returns-clause-in_step c = step_by_step
