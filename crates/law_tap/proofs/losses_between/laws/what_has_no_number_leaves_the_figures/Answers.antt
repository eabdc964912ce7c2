use Rattle.law_tap.proofs.LossyDecided.{silent_figures, outside_figures}
use Rattle.law_tap.proofs.losses_between.laws.what_has_no_number_leaves_the_figures.Goals as goal

pub returns-clause-message : goal.returns-clause-message
returns-clause-message c = silent_figures

pub returns-clause-outside : goal.returns-clause-outside
returns-clause-outside c = outside_figures
