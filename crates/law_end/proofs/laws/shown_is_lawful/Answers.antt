use Rattle.law_end.proofs.Whole.Beginnings.{shown_is_lawful}
use Rattle.law_end.proofs.laws.shown_is_lawful.Goals as goal

pub returns : goal.returns
returns c = shown_is_lawful
