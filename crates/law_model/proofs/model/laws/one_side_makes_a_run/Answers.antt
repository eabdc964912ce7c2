use Rattle.law_model.proofs.ModelLemmas.OneSided.{view_one_sided}
use Rattle.law_model.proofs.ModelLemmas.MadeRuns.{one_sided_view}
use Rattle.law_model.proofs.model.laws.one_side_makes_a_run.Goals as goal

pub returns-clause-alone : goal.returns-clause-alone
returns-clause-alone c = view_one_sided

pub returns-clause-with_other : goal.returns-clause-with_other
returns-clause-with_other c = one_sided_view
