use Rattle.law_model.proofs.ModelLemmas.WorkedNone.{no_request_after, not_back, no_oack_after}
use Rattle.law_model.proofs.model.laws.what_no_end_does.Goals as goal

pub returns-clause-asks_again : goal.returns-clause-asks_again
returns-clause-asks_again c = no_request_after

pub returns-clause-goes_back : goal.returns-clause-goes_back
returns-clause-goes_back c = not_back

pub returns-clause-agrees_late : goal.returns-clause-agrees_late
returns-clause-agrees_late c = no_oack_after
