use Rattle.law_model.proofs.ModelLemmas.Moments as moments
use Rattle.law_model.proofs.model.laws.taken_was_sent.Goals as goal

pub returns : goal.returns
returns c = moments.taken_was_sent
