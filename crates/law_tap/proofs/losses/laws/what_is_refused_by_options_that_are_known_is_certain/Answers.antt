use Rattle.law_tap.proofs.EndOptions.{known_options_certain, own_options_certain}
use Rattle.law_tap.proofs.losses.laws.what_is_refused_by_options_that_are_known_is_certain.Goals as goal

pub returns-clause-known : goal.returns-clause-known
returns-clause-known c = λ header later earlier d broken asked m refused first says stands known. known_options_certain header later earlier d broken asked m refused first says stands known

pub returns-clause-own : goal.returns-clause-own
returns-clause-own c = λ header later earlier d broken asked m refused first says stands out. own_options_certain header later earlier d broken asked m refused first says stands out
