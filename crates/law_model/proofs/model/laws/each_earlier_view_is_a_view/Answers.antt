use Rattle.law_model.proofs.ModelLemmas.Moments.{earlier_view}
use Rattle.law_model.proofs.model.laws.each_earlier_view_is_a_view.Goals as goal

pub returns : goal.returns
returns c = earlier_view
