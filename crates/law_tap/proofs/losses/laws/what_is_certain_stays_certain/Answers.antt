use Rattle.law_tap.proofs.Certain.{stays, later}
use Rattle.law_tap.proofs.losses.laws.what_is_certain_stays_certain.Goals as goal

pub returns-clause-found : goal.returns-clause-found
returns-clause-found c = stays

pub returns-clause-later : goal.returns-clause-later
returns-clause-later c = later
