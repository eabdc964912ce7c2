use Rattle.law_model.proofs.ModelLemmas.WorkedErrors.{block_after_error_is_view, no_answer_to_late_ack}
use Rattle.law_model.proofs.model.laws.blocks_after_an_error_were_sent_before_it.Goals as goal

pub returns-clause-view : goal.returns-clause-view
returns-clause-view c = block_after_error_is_view

pub returns-clause-late : goal.returns-clause-late
returns-clause-late c = no_answer_to_late_ack
