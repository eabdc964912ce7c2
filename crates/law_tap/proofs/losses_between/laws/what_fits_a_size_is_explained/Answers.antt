use Rattle.law_tap.proofs.FiguresMade.{agreed_explains, unseen_explains}
use Rattle.law_tap.proofs.losses_between.laws.what_fits_a_size_is_explained.Goals as goal

pub returns-clause-agreed : goal.returns-clause-agreed
returns-clause-agreed c = λ s asked tapped f agreed are low fair from all fits none. agreed_explains s asked tapped f are low agreed fair from all fits none

pub returns-clause-unseen : goal.returns-clause-unseen
returns-clause-unseen c = λ s asked tapped f are low none_said request fits none. unseen_explains s asked tapped f are low none_said request fits none
