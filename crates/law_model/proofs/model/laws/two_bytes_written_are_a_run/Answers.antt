use Rattle.law_model.proofs.ModelLemmas.Worked.{written_is_view, written_complete}
use Rattle.law_model.proofs.model.laws.two_bytes_written_are_a_run.Goals as goal

pub returns-clause-view : goal.returns-clause-view
returns-clause-view c = written_is_view

pub returns-clause-complete : goal.returns-clause-complete
returns-clause-complete c = written_complete
