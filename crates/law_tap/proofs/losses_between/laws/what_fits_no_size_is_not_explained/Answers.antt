use Rattle.law_tap.proofs.FiguresFit.{unfit_unexplained}
use Rattle.law_tap.proofs.losses_between.laws.what_fits_no_size_is_not_explained.Goals as goal

pub returns : goal.returns
returns c = unfit_unexplained
