use Rattle.judge_tap.proofs.ToldFound.{told_certain, told_not_certain}
use Rattle.judge_tap.proofs.laws.what_is_told_is_certain.Goals as goal

pub returns-clause-yes : goal.returns-clause-yes
returns-clause-yes c = told_certain

pub returns-clause-no : goal.returns-clause-no
returns-clause-no c = told_not_certain
