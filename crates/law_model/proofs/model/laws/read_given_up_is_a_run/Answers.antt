use Rattle.law_model.proofs.ModelLemmas.WorkedErrors.{read_given_up_is_view, no_ack_after, no_other_error}
use Rattle.law_model.proofs.model.laws.read_given_up_is_a_run.Goals as goal

pub returns-clause-view : goal.returns-clause-view
returns-clause-view c = read_given_up_is_view

pub returns-clause-no_ack : goal.returns-clause-no_ack
returns-clause-no_ack c = no_ack_after

pub returns-clause-no_other : goal.returns-clause-no_other
returns-clause-no_other c = no_other_error
