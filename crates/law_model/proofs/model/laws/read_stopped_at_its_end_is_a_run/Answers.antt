use Rattle.law_model.proofs.ModelLemmas.WorkedErrors.{stopped_at_the_end_is_view, stopped_at_the_end_complete}
use Rattle.law_model.proofs.model.laws.read_stopped_at_its_end_is_a_run.Goals as goal

pub returns-clause-view : goal.returns-clause-view
returns-clause-view c = stopped_at_the_end_is_view

pub returns-clause-complete : goal.returns-clause-complete
returns-clause-complete c = stopped_at_the_end_complete
