use Rattle.law_model.proofs.ModelLemmas.OneSided.{error_again}
use Rattle.law_model.proofs.model.laws.nothing_follows_an_error.Goals as goal

pub returns : goal.returns
returns c = error_again
