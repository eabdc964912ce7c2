use Rattle.law_model.proofs.ModelLemmas.WorkedNone.{not_acknowledged, not_told}
use Rattle.law_model.proofs.model.laws.without_the_last_ack_no_read_is_complete.Goals as goal

pub returns-clause-client : goal.returns-clause-client
returns-clause-client c = not_acknowledged

pub returns-clause-server : goal.returns-clause-server
returns-clause-server c = not_told
