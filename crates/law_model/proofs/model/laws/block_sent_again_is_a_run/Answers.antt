use Rattle.law_model.proofs.ModelLemmas.Worked.{repeated_view, repeated_complete}
use Rattle.law_model.proofs.model.laws.block_sent_again_is_a_run.Goals as goal

pub returns-clause-view : goal.returns-clause-view
returns-clause-view c = repeated_view

pub returns-clause-complete : goal.returns-clause-complete
returns-clause-complete c = repeated_complete
