use Rattle.law_tap.proofs.EndStands.{known_is_certain, own_is_certain}
use Rattle.law_tap.proofs.losses.laws.what_is_refused_at_an_end_by_a_rule_that_stands_is_certain.Goals as goal

pub returns-clause-known : goal.returns-clause-known
returns-clause-known c = known_is_certain

pub returns-clause-own : goal.returns-clause-own
returns-clause-own c = λ header later earlier d broken refused stands out. own_is_certain header later earlier d broken refused out stands
