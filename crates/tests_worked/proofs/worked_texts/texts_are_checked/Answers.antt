use Rattle.tests_worked.proofs.TextsPrinted.{read_checked, overrun_checked, unversioned_checked}
use Rattle.tests_worked.proofs.worked_texts.texts_are_checked.Goals as goal

pub returns-clause-accepted : goal.returns-clause-accepted
returns-clause-accepted c = read_checked

pub returns-clause-refused : goal.returns-clause-refused
returns-clause-refused c = overrun_checked

pub returns-clause-fault : goal.returns-clause-fault
returns-clause-fault c = unversioned_checked
