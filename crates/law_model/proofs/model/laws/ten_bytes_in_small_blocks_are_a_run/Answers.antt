use Rattle.law_model.proofs.ModelLemmas.Worked.{two_blocks, ten_bytes_is_view, ten_bytes_complete}
use Rattle.law_model.proofs.model.laws.ten_bytes_in_small_blocks_are_a_run.Goals as goal

pub returns-clause-blocks : goal.returns-clause-blocks
returns-clause-blocks c = two_blocks

pub returns-clause-view : goal.returns-clause-view
returns-clause-view c = ten_bytes_is_view

pub returns-clause-complete : goal.returns-clause-complete
returns-clause-complete c = ten_bytes_complete
