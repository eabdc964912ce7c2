use Rattle.law_model.proofs.ModelLemmas.Worked.{window_view, window_complete}
use Rattle.law_model.proofs.model.laws.window_sent_again_is_a_run.Goals as goal

pub returns-clause-view : goal.returns-clause-view
returns-clause-view c = window_view

pub returns-clause-complete : goal.returns-clause-complete
returns-clause-complete c = window_complete
